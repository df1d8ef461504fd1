-- Which symbol an offer selects, where the rule goes by what other symbols there are.
use Rattle.std.proofs.Common.{◌≡◌, ◌≢◌, ℕ, ◌+◌, Bool, true, false, cond, List, [], ◌∷◌, Some, None, length, refl, ap, ◌∙◌, arith, ◌&&◌, ◌||◌}
use Rattle.std.specs.Prelude.{filter}
use Rattle.std.specs.List.{list_any, position_from}
use Rattle.std.specs.Option.{option_map}
use Rattle.std.proofs.lemmas.Bool.Decides.{nat_tests}
use Rattle.load_model.specs.Offers.{is_accepted, is_early, is_one, is_shown}
use Rattle.load_model.specs.declared.symbols.Class.{Class}
use Rattle.load_model.specs.declared.symbols.Sym.{Sym}

-- one that is found is there
found_any : {X : Type 0} (test : X → Bool) (k i : ℕ) (xs : List X) → position_from test k xs ≡ Some i → list_any test xs ≡ true
found_any test k i [] e = absurd (cc)
found_any test k i (x ∷ xs) e = go (test x) e (found_any test (k + 1) i xs)
  where
    go : (b : Bool) → cond b (Some k) (position_from test (k + 1) xs) ≡ Some i → (position_from test (k + 1) xs ≡ Some i → list_any test xs ≡ true) → (b || list_any test xs) ≡ true
    go true e more = refl
    go false e more = more e

lost_none : {X : Type 0} (test : X → Bool) (k : ℕ) (xs : List X) → position_from test k xs ≡ None → list_any test xs ≡ false
lost_none test k [] e = refl
lost_none test k (x ∷ xs) e = go (test x) e (lost_none test (k + 1) xs)
  where
    go : (b : Bool) → cond b (Some k) (position_from test (k + 1) xs) ≡ None → (position_from test (k + 1) xs ≡ None → list_any test xs ≡ false) → (b || list_any test xs) ≡ false
    go true e more = absurd (cc)
    go false e more = more e

-- what no test passes is not found
never_found : {X : Type 0} (test : X → Bool) (k : ℕ) (xs : List X) → position_from (λ x. test x && false) k xs ≡ None
never_found test k [] = refl
never_found test k (x ∷ xs) = go (test x) (never_found test (k + 1) xs)
  where
    go : (b : Bool) → position_from (λ y. test y && false) (k + 1) xs ≡ None → cond (b && false) (Some k) (position_from (λ y. test y && false) (k + 1) xs) ≡ None
    go true more = more
    go false more = more

always_found : {X : Type 0} (test : X → Bool) (k : ℕ) (xs : List X) → position_from (λ x. test x && true) k xs ≡ position_from test k xs
always_found test k [] = refl
always_found test k (x ∷ xs) = go (test x) (always_found test (k + 1) xs)
  where
    go : (b : Bool) → position_from (λ y. test y && true) (k + 1) xs ≡ position_from test (k + 1) xs → cond (b && true) (Some k) (position_from (λ y. test y && true) (k + 1) xs) ≡ cond b (Some k) (position_from test (k + 1) xs)
    go true more = refl
    go false more = more

-- an early one is there: the first of them
pub early_first : (syms : List Sym) (name : List ℕ) (class : Class) (i : ℕ) → position_from (is_early name class) 0 syms ≡ Some i → position_from (is_accepted syms name class true None) 0 syms ≡ Some i
early_first syms name class i e = go (list_any (is_early name class) syms) (found_any (is_early name class) 0 i syms e)
  where
    go : (b : Bool) → b ≡ true → position_from (λ s. cond b (is_early name class s) (is_shown name class s && is_one (is_shown name class) syms)) 0 syms ≡ Some i
    go true h = e
    go false h = absurd (cc)

-- none is there, and one is shown
pub one_shown : (syms : List Sym) (name : List ℕ) (class : Class) → position_from (is_early name class) 0 syms ≡ None → length (filter (is_shown name class) syms) ≡ 1 → position_from (is_accepted syms name class true None) 0 syms ≡ position_from (is_shown name class) 0 syms
one_shown syms name class e n = go (list_any (is_early name class) syms) (lost_none (is_early name class) 0 syms e) (is_one (is_shown name class) syms) (grind (arith, nat_tests))
  where
    go : (b : Bool) → b ≡ false → (o : Bool) → o ≡ true → position_from (λ s. cond b (is_early name class s) (is_shown name class s && o)) 0 syms ≡ position_from (is_shown name class) 0 syms
    go true h o k = absurd (cc)
    go false h true k = always_found (is_shown name class) 0 syms
    go false h false k = absurd (cc)

-- none is there, and not one is shown
pub none_shown : (syms : List Sym) (name : List ℕ) (class : Class) → position_from (is_early name class) 0 syms ≡ None → length (filter (is_shown name class) syms) ≢ 1 → position_from (is_accepted syms name class true None) 0 syms ≡ None
none_shown syms name class e n = go (list_any (is_early name class) syms) (lost_none (is_early name class) 0 syms e) (is_one (is_shown name class) syms) (grind (arith, nat_tests))
  where
    go : (b : Bool) → b ≡ false → (o : Bool) → o ≡ false → position_from (λ s. cond b (is_early name class s) (is_shown name class s && o)) 0 syms ≡ None
    go true h o k = absurd (cc)
    go false h true k = absurd (cc)
    go false h false k = never_found (is_shown name class) 0 syms

-- places that count from one more
from_one : {X : Type 0} (test : X → Bool) (k : ℕ) (xs : List X) → position_from test (k + 1) xs ≡ option_map (λ i. i + 1) (position_from test k xs)
from_one test k [] = refl
from_one test k (x ∷ xs) = go (test x) (from_one test (k + 1) xs)
  where
    go : (b : Bool) → position_from test (k + 1 + 1) xs ≡ option_map (λ i. i + 1) (position_from test (k + 1) xs) → cond b (Some (k + 1)) (position_from test (k + 1 + 1) xs) ≡ option_map (λ i. i + 1) (cond b (Some k) (position_from test (k + 1) xs))
    go true more = refl
    go false more = more

pub one_further : {X : Type 0} (test : X → Bool) (i : ℕ) (xs : List X) → position_from test 0 xs ≡ Some i → position_from test 1 xs ≡ Some (i + 1)
one_further test i xs e = from_one test 0 xs ∙ ap (option_map (λ j. j + 1)) e

pub none_further : {X : Type 0} (test : X → Bool) (xs : List X) → position_from test 0 xs ≡ None → position_from test 1 xs ≡ None
none_further test xs e = from_one test 0 xs ∙ ap (option_map (λ j. j + 1)) e
