-- The first place that passes a test; an element that passes.
use Rattle.std.proofs.Common.{◌≡◌, ◌∙◌, sym, ap, refl, ℕ, zero, suc, ◌+◌, ◌<◌, List, [], ◌∷◌, Bool, true, false, cond, Some, None, take, slice_get, arith, inl, inr}
use Rattle.std.specs.List.{list_any}
use Rattle.std.proofs.lemmas.Bool.{or_left, or_right, or_cases, cases_Bool}
use Rattle.load_model.specs.LoadList.{Object, first_place}

pub any_here : {X : Type 0} (p : X → Bool) (xs : List X) (i : ℕ) (x : X) → slice_get xs i ≡ Some x → p x ≡ true → list_any p xs ≡ true
any_here p [] i x h t = cc
any_here p (y ∷ ys) zero x h t = let e : y ≡ x = cc in or_left (p y) (list_any p ys) (ap p e ∙ t)
any_here p (y ∷ ys) (suc i) x h t = or_right (p y) (list_any p ys) (any_here p ys i x h t)

pub any_place : {X : Type 0} (p : X → Bool) (xs : List X) → list_any p xs ≡ true → (i : ℕ) × (x : X) × (slice_get xs i ≡ Some x) × (p x ≡ true)
any_place p [] h = cc
any_place p (y ∷ ys) h =
    elim (or_cases (p y) (list_any p ys) h) [
      | inl t ↦ (0, y, refl, t)
      | inr t ↦ let rest = any_place p ys t in (suc rest.0, rest.1, rest.2, rest.3)
    ]

pub slice_get-take : {X : Type 0} (c : ℕ) (xs : List X) (i : ℕ) (x : X) → slice_get (take c xs) i ≡ Some x → (i < c) × (slice_get xs i ≡ Some x)
slice_get-take zero xs i x h = cc
slice_get-take (suc c) [] i x h = cc
slice_get-take (suc c) (y ∷ ys) zero x h = (omega arith, h)
slice_get-take (suc c) (y ∷ ys) (suc i) x h = let rest = slice_get-take c ys i x h in (omega arith, rest.1)

pub slice_get_front : {X : Type 0} (c : ℕ) (xs : List X) (i : ℕ) (x : X) → i < c → slice_get xs i ≡ Some x → slice_get (take c xs) i ≡ Some x
slice_get_front zero xs i x b h = absurd (omega arith)
slice_get_front (suc c) [] i x b h = cc
slice_get_front (suc c) (y ∷ ys) zero x b h = h
slice_get_front (suc c) (y ∷ ys) (suc i) x b h = slice_get_front c ys i x (omega arith) h

none_at : (test : ℕ → Object → Bool) (k : ℕ) (os : List Object) → ((j : ℕ) (x : Object) → slice_get os j ≡ Some x → test (k + j) x ≡ false) → first_place test k os ≡ None
none_at test k [] h = refl
none_at test k (o ∷ os) h =
    let first : test k o ≡ false = ap (λ i. test i o) (let e : k ≡ k + 0 = omega arith in e) ∙ h 0 o refl in
    ap (λ b. cond b (Some k) (first_place test (suc k) os)) first
    ∙ none_at test (suc k) os (λ j x g. ap (λ i. test i x) (let e : suc k + j ≡ k + suc j = omega arith in e) ∙ h (suc j) x g)

pub first_none : (test : ℕ → Object → Bool) (os : List Object) → ((j : ℕ) (x : Object) → slice_get os j ≡ Some x → test j x ≡ false) → first_place test 0 os ≡ None
first_none test os h = none_at test 0 os (λ j x g. ap (λ i. test i x) (let e : 0 + j ≡ j = omega arith in e) ∙ h j x g)

some_at : (test : ℕ → Object → Bool) (k t : ℕ) (o : Object) (os : List Object) → slice_get os t ≡ Some o → test (k + t) o ≡ true → ((j : ℕ) (x : Object) → slice_get os j ≡ Some x → test (k + j) x ≡ true → j ≡ t) → first_place test k os ≡ Some (k + t)
some_at test k t o [] g h one = cc
some_at test k zero o (y ∷ ys) g h one =
    let e : y ≡ o = cc in
    let z : k + 0 ≡ k = omega arith in
    ap (λ b. cond b (Some k) (first_place test (suc k) ys)) (ap (test k) e ∙ ap (λ i. test i o) (sym z) ∙ h) ∙ ap Some (sym z)
some_at test k (suc t) o (y ∷ ys) g h one =
    let z : k + 0 ≡ k = omega arith in
    let first : test k y ≡ false = elim (cases_Bool (test k y)) [
      | inl b ↦ absurd (let e = one 0 y refl (ap (λ i. test i y) z ∙ b) in omega arith)
      | inr b ↦ b
    ] in
    let up : (j : ℕ) → suc k + j ≡ k + suc j = λ j. omega arith in
    ap (λ b. cond b (Some k) (first_place test (suc k) ys)) first
    ∙ some_at test (suc k) t o ys g (ap (λ i. test i o) (up t) ∙ h) (λ j x w b. let e = one (suc j) x w (ap (λ i. test i x) (sym (up j)) ∙ b) in omega arith)
    ∙ ap Some (up t)

pub first_some : (test : ℕ → Object → Bool) (t : ℕ) (o : Object) (os : List Object) → slice_get os t ≡ Some o → test t o ≡ true → ((j : ℕ) (x : Object) → slice_get os j ≡ Some x → test j x ≡ true → j ≡ t) → first_place test 0 os ≡ Some t
first_some test t o os g h one =
    let z : (j : ℕ) → 0 + j ≡ j = λ j. omega arith in
    some_at test 0 t o os g (ap (λ i. test i o) (z t) ∙ h) (λ j x w b. one j x w (ap (λ i. test i x) (sym (z j)) ∙ b)) ∙ ap Some (z t)

none_everywhere : (test : ℕ → Object → Bool) (k : ℕ) (os : List Object) (b : Bool) (j : ℕ) (x : Object) (o : Object) → test k o ≡ b → cond b (Some k) (first_place test (suc k) os) ≡ None → (first_place test (suc k) os ≡ None) × (b ≡ false)
none_everywhere test k os true j x o e h = cc
none_everywhere test k os false j x o e h = (h, refl)

none_all : (test : ℕ → Object → Bool) (k : ℕ) (os : List Object) → first_place test k os ≡ None → (j : ℕ) (x : Object) → slice_get os j ≡ Some x → test (k + j) x ≡ false
none_all test k [] h j x g = cc
none_all test k (o ∷ os) h zero x g =
    let parts = none_everywhere test k os (test k o) 0 x o refl h in
    let e : o ≡ x = cc in
    let z : k + 0 ≡ k = omega arith in
    ap (λ i. test i x) z ∙ ap (test k) (sym e) ∙ parts.1
none_all test k (o ∷ os) h (suc j) x g =
    let parts = none_everywhere test k os (test k o) 0 x o refl h in
    let up : k + suc j ≡ suc k + j = omega arith in
    ap (λ i. test i x) up ∙ none_all test (suc k) os parts.0 j x g

-- where no place passes, each fails
pub none_passes : (test : ℕ → Object → Bool) (os : List Object) → first_place test 0 os ≡ None → (j : ℕ) (x : Object) → slice_get os j ≡ Some x → test j x ≡ false
none_passes test os h j x g = ap (λ i. test i x) (let e : j ≡ 0 + j = omega arith in e) ∙ none_all test 0 os h j x g
