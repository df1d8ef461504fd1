-- Tests of lists whose elements are seen through a function.
use Rattle.std.proofs.Common.{◌≡◌, ℕ, Bool, true, false, cond, ◌||◌, List, [], ◌∷◌, ◌++◌, map, bytes_eq, refl, ap, sym, ◌∙◌}
use Rattle.std.specs.List.{list_any}
use Rattle.std.proofs.lemmas.List.{map-append}
use Rattle.indexmap.specs.IndexSet.{insert_key}

pub any-map : {X Y : Type 0} (p : Y → Bool) (f : X → Y) (xs : List X) → list_any p (map f xs) ≡ list_any (λ x. p (f x)) xs
any-map p f [] = refl
any-map p f (x ∷ xs) = ap (λ b. p (f x) || b) (any-map p f xs)

chosen : {X Y : Type 0} (f : X → Y) (keys : List X) (k : X) (b : Bool) → map f (cond b keys (keys ++ k ∷ [])) ≡ cond b (map f keys) (map f keys ++ f k ∷ [])
chosen f keys k true = refl
chosen f keys k false = map-append f keys (k ∷ [])

-- the texts after a key joined them, unless it was there
pub inserted : {X : Type 0} (f : X → List ℕ) (keys after : List X) (k : X) (old : List (List ℕ)) (text : List ℕ) → map f keys ≡ old → f k ≡ text → after ≡ cond (list_any (λ x. bytes_eq (f k) (f x)) keys) keys (keys ++ k ∷ []) → map f after ≡ insert_key bytes_eq old text
inserted f keys after k old text e v a =
    ap (map f) a
    ∙ chosen f keys k (list_any (λ x. bytes_eq (f k) (f x)) keys)
    ∙ ap (λ b. cond b (map f keys) (map f keys ++ f k ∷ [])) (sym (any-map (λ t. bytes_eq (f k) t) f keys))
    ∙ ap (λ ts. insert_key bytes_eq ts (f k)) e ∙ ap (insert_key bytes_eq old) v
