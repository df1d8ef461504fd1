-- What `find`, `position` and `filter` say of the elements of a list.
use Rattle.std.proofs.Common.{◌≡◌, ℕ, zero, suc, ◌+◌, ◌<◌, ◌≤◌, Bool, true, false, cond, List, [], ◌∷◌, Some, None, length, get_or, refl, arith}
use Rattle.std.specs.List.{filter, find, position_from}
use Rattle.byte_view.specs.Memory.{the_only}

-- where no place passes, no element does
pub none_passes : {X : Type 0} (p : X → Bool) (i : ℕ) (xs : List X) → position_from p i xs ≡ None → (k : ℕ) (d : X) → k < length xs → p (get_or xs k d) ≡ false
none_passes p i [] e k d h = absurd (omega arith)
none_passes p i (x ∷ xs) e zero d h = grind (arith)
none_passes p i (x ∷ xs) e (suc k) d h = grind (arith, none_passes p (i + 1) xs)

-- what is found passes
pub find_passes : {X : Type 0} (p : X → Bool) (xs : List X) (y : X) → find p xs ≡ Some y → p y ≡ true
find_passes p [] y e = absurd (cc)
find_passes p (x ∷ xs) y e = grind (arith, find_passes p xs y)

-- and is one of the list
pub find_all : {X : Type 0} (p q : X → Bool) (xs : List X) (y : X) → ((k : ℕ) (d : X) → k < length xs → q (get_or xs k d) ≡ false) → find p xs ≡ Some y → q y ≡ false
find_all p q [] y all e = absurd (cc)
find_all {X = X} p q (x ∷ xs) y all e =
    let here : q x ≡ false = all 0 x (omega arith) in
    let later : (k : ℕ) (d : X) → k < length xs → q (get_or xs k d) ≡ false = λ k d h. all (suc k) d (omega arith) in
    grind (arith, here, find_all p q xs y later)

-- where at most one passes, it is the first that does
pub only_is_find : {X : Type 0} (p : X → Bool) (xs : List X) → length (filter p xs) ≤ 1 → the_only (filter p xs) ≡ find p xs
only_is_find p [] h = refl
only_is_find {X = X} p (x ∷ xs) h = go (p x) (filter p xs) (only_is_find p xs) h
  where
    go : (b : Bool) (more : List X) → (length more ≤ 1 → the_only more ≡ find p xs) → length (cond b (x ∷ more) more) ≤ 1 → the_only (cond b (x ∷ more) more) ≡ cond b (Some x) (find p xs)
    go true [] rest h = refl
    go true (y ∷ more) rest h = absurd (omega arith)
    go false more rest h = rest h

-- where at most one passes, it is one that was found by another test
pub only_found : {X : Type 0} (p q : X → Bool) (xs : List X) (y : X) → find p xs ≡ Some y → q y ≡ true → length (filter q xs) ≤ 1 → the_only (filter q xs) ≡ Some y
only_found p q [] y e t h = absurd (cc)
only_found {X = X} p q (x ∷ xs) y e t h = go (p x) (q x) refl (filter q xs) (λ f. only_found p q xs y f t) e h
  where
    go : (a b : Bool) → q x ≡ b → (more : List X) → (find p xs ≡ Some y → length more ≤ 1 → the_only more ≡ Some y) → cond a (Some x) (find p xs) ≡ Some y → length (cond b (x ∷ more) more) ≤ 1 → the_only (cond b (x ∷ more) more) ≡ Some y
    go true true k [] rest e h = e
    go a true k (z ∷ more) rest e h = absurd (omega arith)
    go true false k more rest e h = absurd (cc)
    go false true k [] rest e h = absurd (let f : None ≡ Some y = rest e (omega arith) in cc)
    go false false k more rest e h = rest e h
