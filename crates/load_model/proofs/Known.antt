-- What the target of a request answers is an object that is there.
use Rattle.std.proofs.Common.{◌≡◌, refl, ℕ, suc, ◌+◌, ◌<◌, List, [], ◌∷◌, Bool, true, false, cond, Option, Some, None, Result, Ok, Err, length, arith, nat_lt}
use Rattle.std.proofs.lemmas.Bool.{ltb-true}
use Rattle.std.specs.Str.{bytes_eq}
use Rattle.load_model.specs.LoadList.{Object, Request, Asked, Found, Known, Brought, IsSound, is_known, first_place, by_id, by_search, by_name, found_for}

place_cases : (b : Bool) (i j n : ℕ) (rest : Option ℕ) → cond b (Some i) rest ≡ Some j → (rest ≡ Some j → j < suc i + n) → j < i + suc n
place_cases true i j n rest h k = let e : i ≡ j = cc in omega arith
place_cases false i j n rest h k = let e = k h in omega arith

pub place_within : (test : ℕ → Object → Bool) (i : ℕ) (os : List Object) (j : ℕ) → first_place test i os ≡ Some j → j < i + length os
place_within test i [] j h = cc
place_within test i (o ∷ os) j h = place_cases (test i o) i j (length os) (first_place test (suc i) os) h (place_within test (suc i) os j)

no_known : {X : Type 0} (too_many : X) (b : Bool) (o : Object) (i : ℕ) → ◌≡◌ {A = Result Found X} (cond b (Ok (Brought o)) (Err too_many)) (Ok (Known i)) → ⊥
no_known too_many true o i h = let e : Brought o ≡ Known i = cc in cc
no_known too_many false o i h = cc

within : {X : Type 0} (too_many : X) (b : Bool) (n m : ℕ) (o p : Object) → nat_lt n m ≡ b → ◌≡◌ {A = Result Found X} (cond b (Ok (Brought o)) (Err too_many)) (Ok (Brought p)) → n < m
within too_many true n m o p e h = ltb-true n m e
within too_many false n m o p e h = cc

module _ {X : Type 0} (too_many : X) (limit : ℕ) (search : List Object → List Asked → Request → Result Object X) where
  known_id : (objs : List Object) (o : Object) (p : Option ℕ) (i : ℕ) → ((j : ℕ) → p ≡ Some j → j < length objs) → by_id too_many limit search objs o p ≡ Ok (Known i) → i < length objs
  known_id objs o (Some j) i k h = k i (let e : Known j ≡ Known i = cc in cc)
  known_id objs o None i k h = absurd (no_known too_many (nat_lt (length objs) limit) o i h)

  known_search : (objs : List Object) (s : Result Object X) (i : ℕ) → by_search too_many limit search objs s ≡ Ok (Known i) → i < length objs
  known_search objs (Err r) i h = cc
  known_search objs (Ok o) i h = known_id objs o (first_place (λ j x. bytes_eq x.id o.id) 0 objs) i (λ j g. let w = place_within (λ j x. bytes_eq x.id o.id) 0 objs j g in omega arith) h

  known_name : (objs : List Object) (log : List Asked) (r : Request) (p : Option ℕ) (i : ℕ) → ((j : ℕ) → p ≡ Some j → j < length objs) → by_name too_many limit search objs log r p ≡ Ok (Known i) → i < length objs
  known_name objs log r (Some j) i k h = k i (let e : Known j ≡ Known i = cc in cc)
  known_name objs log r None i k h = known_search objs (search objs log r) i h

  few_id : (objs : List Object) (o q : Object) (p : Option ℕ) → by_id too_many limit search objs o p ≡ Ok (Brought q) → length objs < limit
  few_id objs o q (Some j) h = let e : Known j ≡ Brought q = cc in cc
  few_id objs o q None h = within too_many (nat_lt (length objs) limit) (length objs) limit o q refl h

  few_search : (objs : List Object) (q : Object) (s : Result Object X) → by_search too_many limit search objs s ≡ Ok (Brought q) → length objs < limit
  few_search objs q (Err r) h = cc
  few_search objs q (Ok o) h = few_id objs o q (first_place (λ j x. bytes_eq x.id o.id) 0 objs) h

  few_name : (objs : List Object) (log : List Asked) (r : Request) (q : Object) (p : Option ℕ) → by_name too_many limit search objs log r p ≡ Ok (Brought q) → length objs < limit
  few_name objs log r q (Some j) h = let e : Known j ≡ Brought q = cc in cc
  few_name objs log r q None h = few_search objs q (search objs log r) h

  pub target_sound : IsSound (found_for too_many limit search) limit
  unfolding found_for
  target_sound = record {
    known = λ objs log r i h. known_name objs log r (first_place (is_known log r.name) 0 objs) i (λ j g. let w = place_within (is_known log r.name) 0 objs j g in omega arith) h;
    brought = λ objs log r o h. few_name objs log r o (first_place (is_known log r.name) 0 objs) h;
  }
