-- Tests and places in lists whose elements are seen through a function.
use Rattle.std.proofs.Common.{◌≡◌, ℕ, suc, Bool, true, false, cond, ◌||◌, ◌+◌, List, [], ◌∷◌, ◌++◌, length, map, bytes_eq, refl, ap, sym, ◌∙◌, arith, slice_get}
use Rattle.std.specs.Prelude.{nat_lt, not, position, Some, None}
use Rattle.std.specs.List.{find, list_any, prefix_len}
use Rattle.std.specs.Option.{option_and_then}
use Rattle.std.proofs.lemmas.Bool.{ltb-false}
use Rattle.std.proofs.lemmas.Option.{slice_get_past}
use Rattle.std.proofs.lemmas.List.{map-append, length-map}
use Rattle.indexmap.specs.IndexSet.{insert_key}

pub any-map : {X Y : Type 0} (p : Y → Bool) (f : X → Y) (xs : List X) → list_any p (map f xs) ≡ list_any (λ x. p (f x)) xs
any-map p f [] = refl
any-map p f (x ∷ xs) = ap (λ b. p (f x) || b) (any-map p f xs)

prefix-map : {X Y : Type 0} (p : Y → Bool) (f : X → Y) (xs : List X) → prefix_len p (map f xs) ≡ prefix_len (λ x. p (f x)) xs
prefix-map p f [] = refl
prefix-map p f (x ∷ xs) = ap (λ n. cond (p (f x)) (1 + n) 0) (prefix-map p f xs)

pub position-map : {X Y : Type 0} (p : Y → Bool) (f : X → Y) (xs : List X) → position p (map f xs) ≡ position (λ x. p (f x)) xs
position-map p f xs =
    ap (λ n. cond (nat_lt n (length (map f xs))) (Some n) None) (prefix-map (λ y. not (p y)) f xs)
    ∙ ap (λ m. cond (nat_lt (prefix_len (λ x. not (p (f x))) xs) m) (Some (prefix_len (λ x. not (p (f x))) xs)) None) (length-map xs f)

chosen : {X Y : Type 0} (f : X → Y) (keys : List X) (k : X) (b : Bool) → map f (cond b keys (keys ++ k ∷ [])) ≡ cond b (map f keys) (map f keys ++ f k ∷ [])
chosen f keys k true = refl
chosen f keys k false = map-append f keys (k ∷ [])

-- The texts after a key joined them, unless it was there.
pub inserted : {X : Type 0} (f : X → List ℕ) (keys after : List X) (k : X) (old : List (List ℕ)) (text : List ℕ) → map f keys ≡ old → f k ≡ text → after ≡ cond (list_any (λ x. bytes_eq (f k) (f x)) keys) keys (keys ++ k ∷ []) → map f after ≡ insert_key bytes_eq old text
inserted f keys after k old text e v a =
    ap (map f) a
    ∙ chosen f keys k (list_any (λ x. bytes_eq (f k) (f x)) keys)
    ∙ ap (λ b. cond b (map f keys) (map f keys ++ f k ∷ [])) (sym (any-map (λ t. bytes_eq (f k) t) f keys))
    ∙ ap (λ ts. insert_key bytes_eq ts (f k)) e ∙ ap (insert_key bytes_eq old) v

step : {X : Type 0} (p : X → Bool) (b : Bool) (x : X) (xs : List X) → find p xs ≡ slice_get xs (prefix_len (λ y. not (p y)) xs) → cond b (Some x) (find p xs) ≡ slice_get (x ∷ xs) (cond (not b) (1 + prefix_len (λ y. not (p y)) xs) 0)
step p true x xs h = refl
step p false x xs h =
    let up : 1 + prefix_len (λ y. not (p y)) xs ≡ suc (prefix_len (λ y. not (p y)) xs) = omega arith in
    h ∙ ap (slice_get (x ∷ xs)) (sym up)

-- What passes first stands behind those that do not pass.
find-place : {X : Type 0} (p : X → Bool) (xs : List X) → find p xs ≡ slice_get xs (prefix_len (λ y. not (p y)) xs)
find-place p [] = refl
find-place p (x ∷ xs) = step p (p x) x xs (find-place p xs)

of_place : {X : Type 0} (xs : List X) (n : ℕ) (b : Bool) → nat_lt n (length xs) ≡ b → slice_get xs n ≡ option_and_then (slice_get xs) (cond b (Some n) None)
of_place xs n true h = refl
of_place xs n false h = slice_get_past xs n (ltb-false n (length xs) h)

pub find-position : {X : Type 0} (p : X → Bool) (xs : List X) → find p xs ≡ option_and_then (slice_get xs) (position p xs)
find-position p xs =
    find-place p xs
    ∙ of_place xs (prefix_len (λ y. not (p y)) xs) (nat_lt (prefix_len (λ y. not (p y)) xs) (length xs)) refl
