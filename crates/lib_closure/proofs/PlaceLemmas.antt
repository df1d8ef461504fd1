-- What is left of a list from a place on.
use Rattle.std.proofs.Common.{◌≡◌, ◌∙◌, sym, ap, refl, ℕ, zero, suc, ◌+◌, ◌<◌, ◌≤◌, List, [], ◌∷◌, Option, Some, None, drop, length, map, slice_get, get_or, arith}
use Rattle.std.proofs.lemmas.Option.{slice_get_read}
use Rattle.answers.specs.First.{first_some}

pub drop_next : {X : Type 0} (xs : List X) (i : ℕ) (x : X) → slice_get xs i ≡ Some x → drop i xs ≡ x ∷ drop (i + 1) xs
drop_next [] i x h = cc
drop_next (y ∷ xs) zero x h = let e : y ≡ x = cc in ap (λ z. z ∷ xs) e
drop_next (y ∷ xs) (suc i) x h =
    let up : suc i + 1 ≡ suc (i + 1) = omega arith in
    drop_next xs i x h ∙ ap (λ n. x ∷ drop n (y ∷ xs)) (sym up)

-- The same, of an element that was read.
pub drop_read : {X : Type 0} (xs : List X) (i : ℕ) (x : X) → i < length xs → x ≡ get_or xs i x → drop i xs ≡ x ∷ drop (i + 1) xs
drop_read xs i x less h = drop_next xs i x (slice_get_read xs (length xs) i x refl less h)

pub drop_all : {X : Type 0} (xs : List X) (i : ℕ) → length xs ≤ i → drop i xs ≡ []
drop_all [] zero h = refl
drop_all [] (suc i) h = refl
drop_all (x ∷ xs) zero h = absurd (omega arith)
drop_all (x ∷ xs) (suc i) h = drop_all xs i (omega arith)

pub none_then : {A : Type 0} (o : Option A) (more : List (Option A)) → o ≡ None → first_some (o ∷ more) ≡ first_some more
none_then None more h = refl
none_then (Some a) more h = cc

pub some_then : {A : Type 0} (o : Option A) (a : A) (more : List (Option A)) → o ≡ Some a → first_some (o ∷ more) ≡ Some a
some_then None a more h = cc
some_then (Some b) a more h = h

-- An element that gives nothing is passed over.
pub first_passed : {X A : Type 0} (f : X → Option A) (xs : List X) (i : ℕ) (x : X) → i < length xs → x ≡ get_or xs i x → f x ≡ None → first_some (map f (drop i xs)) ≡ first_some (map f (drop (i + 1) xs))
first_passed f xs i x less h none = ap (λ ys. first_some (map f ys)) (drop_read xs i x less h) ∙ none_then (f x) (map f (drop (i + 1) xs)) none

-- One that gives something is the first.
pub first_here : {X A : Type 0} (f : X → Option A) (xs : List X) (i : ℕ) (x : X) (a : A) → i < length xs → x ≡ get_or xs i x → f x ≡ Some a → first_some (map f (drop i xs)) ≡ Some a
first_here f xs i x a less h some = ap (λ ys. first_some (map f ys)) (drop_read xs i x less h) ∙ some_then (f x) a (map f (drop (i + 1) xs)) some

pub first_over : {X A : Type 0} (f : X → Option A) (xs : List X) (i : ℕ) → length xs ≤ i → first_some (map f (drop i xs)) ≡ None
first_over f xs i h = ap (λ ys. first_some (map f ys)) (drop_all xs i h)
