-- Items one after the other.
use Rattle.std.proofs.Common.{◌≡◌, ◌∙◌, sym, ap, refl, ℕ, ◌<◌, arith, List, [], ◌∷◌, ◌++◌, Result, Ok, Err, drop, length, take, slice_index_or}
use Rattle.std.specs.Prelude.{IfOk}
use Rattle.appdir_files.specs.declared.items.Item.{Item}
use Rattle.appdir_build.specs.Writing.{AreAllItems, all_items, front_items}
use Rattle.appdir_build.specs.declared.writing.Written.{Written}

three : {X : Type 0} (ls : List X) (a b c : X) → ((ls ++ (a ∷ [])) ++ (b ∷ [])) ++ (c ∷ []) ≡ ls ++ (a ∷ b ∷ c ∷ [])
three [] a b c = refl
three (x ∷ ls) a b c = ap (λ t. x ∷ t) (three ls a b c)

pub pushed : {X : Type 0} (ls xs ys zs : List X) (a b c d e : X) → xs ≡ ls ++ (a ∷ []) → ys ≡ xs ++ (b ∷ []) → zs ≡ ys ++ (c ∷ []) → a ≡ d → b ≡ e → zs ≡ ls ++ (d ∷ e ∷ c ∷ [])
pushed ls xs ys zs a b c d e f g h i j =
    h ∙ (ap (λ t. t ++ (c ∷ [])) (g ∙ ap (λ t. t ++ (b ∷ [])) f) ∙ (three ls a b c ∙ (ap (λ x. ls ++ (x ∷ b ∷ c ∷ [])) i ∙ ap (λ x. ls ++ (d ∷ x ∷ c ∷ [])) j)))

pub two_and : {X : Type 0} (ls : List X) (a b : X) (more : List X) → (ls ++ (a ∷ b ∷ [])) ++ more ≡ ls ++ (a ∷ b ∷ more)
two_and [] a b more = refl
two_and (x ∷ ls) a b more = ap (λ t. x ∷ t) (two_and ls a b more)

pub ends : {X E : Type 0} (ls : List X) (a b m n last : X) (result : Result (List X) E) → IfOk result (λ all. all ≡ (ls ++ (a ∷ b ∷ [])) ++ (m ∷ last ∷ [])) → m ≡ n → IfOk result (λ all. all ≡ ls ++ (a ∷ b ∷ n ∷ last ∷ []))
ends ls a b m n last (Ok all) h e = h ∙ (two_and ls a b (m ∷ last ∷ []) ∙ ap (λ x. ls ++ (a ∷ b ∷ x ∷ last ∷ [])) e)
ends ls a b m n last (Err x) h e = h

-- ---- the first program and the others

first_of : {X : Type 0} (xs : List X) (x : X) → 0 < length xs → x ≡ slice_index_or xs 0 x → take 1 xs ≡ x ∷ []
first_of [] x some is = absurd (omega (arith, some))
first_of (y ∷ xs) x some is = ap (λ z. z ∷ []) (sym is)

pub all_of : {E : Type 0} (written : Written) (extras front : List Item) (host report : List ℕ) (main : Item) (programs tools : List Item) (result : Result (List Item) E) → programs ≡ written.programs → 0 < length programs → main ≡ slice_index_or programs 0 main → tools ≡ drop 1 programs → front ≡ written.libs ++ (tools ++ extras) → IfOk result (λ items. items ≡ all_items front host report main) → IfOk result (AreAllItems written extras host report)
all_of written extras front host report main programs tools (Ok items) e some first others front_is h =
    record {
      main = main;
      first = ap (take 1) (sym e) ∙ first_of programs main some first;
      items_are = h ∙ ap (λ l. all_items l host report main) (front_is ∙ ap (λ l. written.libs ++ (l ++ extras)) (others ∙ ap (drop 1) e));
    }
all_of written extras front host report main programs tools (Err x) e some first others front_is h = h
