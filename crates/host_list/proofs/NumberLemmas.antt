-- Numbers that are added one after the other, and lists that have an element for each number.
use Rattle.std.proofs.Common.{◌≡◌, ◌∙◌, ap, sym, refl, ℕ, zero, suc, ◌+◌, ◌<◌, List, [], ◌∷◌, ◌++◌, Bool, true, false, cond, length, length-append, map, arith, inl, inr}
use Rattle.std.specs.Prelude.{◌==◌, Some, slice_get}
use Rattle.std.specs.List.{list_any}
use Rattle.std.proofs.lemmas.Bool.{cases_lt}
use Rattle.std.proofs.lemmas.List.{length-map, map-append}
use Rattle.load_model.proofs.AskedNeeds.{map_get}
use Rattle.load_model.proofs.Counts.{slice_get_left}
use Rattle.load_model.specs.LoadList.{up_to, with_numbers}

with_both : (ks ms ns : List ℕ) → with_numbers ks (ms ++ ns) ≡ with_numbers (with_numbers ks ms) ns
unfolding with_numbers
with_both ks [] ns = refl
with_both ks (m ∷ ms) ns = with_both (cond (list_any (λ k. k == m) ks) ks (ks ++ m ∷ [])) ms ns

-- one number more
pub with_next : (ks now more : List ℕ) (n : ℕ) → now ≡ with_numbers ks (up_to n) → more ≡ cond (list_any (λ k. k == n) now) now (now ++ n ∷ []) → more ≡ with_numbers ks (up_to (n + 1))
unfolding with_numbers up_to
with_next ks now more n e h =
    let next : suc n ≡ n + 1 = omega arith in
    h ∙ (ap (λ xs. cond (list_any (λ k. k == n) xs) xs (xs ++ n ∷ [])) e ∙ (sym (with_both ks (up_to n) (n ∷ [])) ∙ ap (λ m. with_numbers ks (up_to m)) next))

one_alone : (b : Bool) (n : ℕ) → with_numbers [] (cond b (n ∷ []) []) ≡ cond b (n ∷ []) []
unfolding with_numbers
one_alone true n = refl
one_alone false n = refl

-- a scope is made of its three parts
pub three_parts : (b : Bool) (n g : ℕ) (own first second more : List ℕ) → own ≡ cond b (n ∷ []) [] → first ≡ with_numbers own (up_to g) → second ≡ with_numbers first more → second ≡ with_numbers [] (cond b (n ∷ []) [] ++ (up_to g ++ more))
three_parts b n g own first second more e f h =
    h ∙ (ap (λ xs. with_numbers xs more) (f ∙ ap (λ xs. with_numbers xs (up_to g)) (e ∙ sym (one_alone b n)))
    ∙ (sym (with_both (with_numbers [] (cond b (n ∷ []) [])) (up_to g) more) ∙ sym (with_both [] (cond b (n ∷ []) []) (up_to g ++ more))))

-- an element for one number more
pub map_next : {X Y : Type 0} (g : X → Y) (f : ℕ → Y) (xs more : List X) (x : X) (n : ℕ) → map g xs ≡ map f (up_to n) → g x ≡ f n → more ≡ xs ++ x ∷ [] → map g more ≡ map f (up_to (n + 1))
unfolding up_to
map_next g f xs more x n e h a =
    let next : suc n ≡ n + 1 = omega arith in
    ap (map g) a ∙ (map-append g xs (x ∷ []) ∙ (ap (λ ys. ys ++ g x ∷ []) e ∙ (ap (λ y. map f (up_to n) ++ y ∷ []) h ∙ (sym (map-append f (up_to n) (n ∷ [])) ∙ ap (λ m. map f (up_to m)) next))))

length-up_to : (n : ℕ) → length (up_to n) ≡ n
unfolding up_to
length-up_to zero = refl
length-up_to (suc n) =
    let one = length-append (up_to n) (n ∷ []) in
    let rest = length-up_to n in
    omega (arith, one, rest)

last_stands : (xs : List ℕ) (x : ℕ) → slice_get (xs ++ x ∷ []) (length xs) ≡ Some x
last_stands [] x = refl
last_stands (y ∷ xs) x = last_stands xs x

-- each number stands at its own place
number_at : (n j : ℕ) → j < n → slice_get (up_to n) j ≡ Some j
unfolding up_to
number_at zero j h = absurd (omega arith)
number_at (suc n) j h =
    elim (cases_lt j n) [
      | inl a ↦ slice_get_left (up_to n) (n ∷ []) j j (number_at n j a)
      | inr a ↦
          let here : j ≡ n = omega arith in
          let place : n ≡ length (up_to n) = sym (length-up_to n) in
          ap (slice_get (up_to n ++ n ∷ [])) (here ∙ place) ∙ last_stands (up_to n) n ∙ ap Some (sym here)
    ]

pub made_at : {Y : Type 0} (f : ℕ → Y) (n j : ℕ) → j < n → slice_get (map f (up_to n)) j ≡ Some (f j)
made_at f n j h = map_get f (up_to n) j j (number_at n j h)

-- what was made for each number
pub made_count : {X Y : Type 0} (g : X → Y) (f : ℕ → Y) (xs : List X) (n : ℕ) → map g xs ≡ map f (up_to n) → length xs ≡ n
made_count g f xs n e = sym (length-map xs g) ∙ (ap length e ∙ (length-map (up_to n) f ∙ length-up_to n))

same_some : {Y : Type 0} (x y : Y) → Some x ≡ Some y → x ≡ y
same_some x y e = cc

pub made_there : {X Y : Type 0} (g : X → Y) (f : ℕ → Y) (xs : List X) (n j : ℕ) (x : X) → map g xs ≡ map f (up_to n) → j < n → slice_get xs j ≡ Some x → g x ≡ f j
made_there g f xs n j x e h at = same_some (g x) (f j) (sym (map_get g xs j x at) ∙ (ap (λ ys. slice_get ys j) e ∙ made_at f n j h))
