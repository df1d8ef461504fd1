-- The first of the objects that pass, and what stands in lists that grow.
use Rattle.std.proofs.Common.{◌≡◌, ◌∙◌, ap, refl, subst, ℕ, zero, suc, ◌+◌, ◌<◌, ◌⊎◌, List, [], ◌∷◌, ◌++◌, Bool, cond, Some, All, length, take, position, slice_get, arith, inl, inr}
use Rattle.std.specs.List.{position_from}
use Rattle.std.proofs.lemmas.Iterator.Adapters.{position_from-zero}
use Rattle.std.proofs.lemmas.Option.{get_or_from_slice_get, slice_get-get_or, slice_get_within}
use Rattle.std.proofs.lemmas.List.Elements.{All-append}
use Rattle.load_model.specs.LoadList.{Object, first_place}

place_from : {X : Type 0} (p : X → Bool) (test : ℕ → Object → Bool) (k : ℕ) (xs : List X) (os : List Object) → length os ≡ length xs → ((j : ℕ) (x : X) (o : Object) → slice_get xs j ≡ Some x → slice_get os j ≡ Some o → p x ≡ test (k + j) o) → position_from p k xs ≡ first_place test k os
place_from p test k [] [] e h = refl
place_from p test k [] (o ∷ os) e h = absurd (omega (arith, e))
place_from p test k (x ∷ xs) [] e h = absurd (omega (arith, e))
place_from p test k (x ∷ xs) (o ∷ os) e h =
    let z : k + 0 ≡ k = omega arith in
    let here : p x ≡ test k o = h 0 x o refl refl ∙ ap (λ i. test i o) z in
    let rest : position_from p (suc k) xs ≡ first_place test (suc k) os = place_from p test (suc k) xs os (omega (arith, e)) (λ j y q g w. h (suc j) y q g w ∙ ap (λ i. test i q) (let up : k + suc j ≡ suc k + j = omega arith in up)) in
    let one : k + 1 ≡ suc k = omega arith in
    ap (λ b. cond b (Some k) (position_from p (k + 1) xs)) here
    ∙ ap (λ r. cond (test k o) (Some k) r) (ap (λ i. position_from p i xs) one ∙ rest)

-- the first that passes, in two lists that go side by side
pub same_place : {X : Type 0} (p : X → Bool) (test : ℕ → Object → Bool) (xs : List X) (os : List Object) → length os ≡ length xs → ((j : ℕ) (x : X) (o : Object) → slice_get xs j ≡ Some x → slice_get os j ≡ Some o → p x ≡ test j o) → position p xs ≡ first_place test 0 os
same_place p test xs os e h =
    position_from-zero p xs ∙ place_from p test 0 xs os e (λ j x o g w. h j x o g w ∙ ap (λ i. test i o) (let z : j ≡ 0 + j = omega arith in z))

-- ---- elements by their places

pub all_at : {X : Type 0} (P : X → Type 0) (xs : List X) (i : ℕ) (x : X) → All P xs → slice_get xs i ≡ Some x → P x
all_at P xs i x all g = subst P (get_or_from_slice_get xs i x x g) (all i x (slice_get_within xs i x g))

pub all_from : {X : Type 0} (P : X → Type 0) (xs : List X) → ((i : ℕ) (x : X) → slice_get xs i ≡ Some x → P x) → All P xs
all_from P xs h = λ k d below. h k _ (slice_get-get_or xs k d below)

pub all_more : {X : Type 0} (P Q : X → Type 0) (xs : List X) → ((x : X) → P x → Q x) → All P xs → All Q xs
all_more P Q xs f h = λ k d below. f _ (h k d below)

alone : {X : Type 0} (P : X → Type 0) (x : X) → P x → (i : ℕ) (y : X) → slice_get (x ∷ []) i ≡ Some y → P y
alone P x one zero y g = subst P (let e : x ≡ y = cc in e) one
alone P x one (suc i) y g = cc

pub all_push : {X : Type 0} (P : X → Type 0) (xs : List X) (x : X) → All P xs → P x → All P (xs ++ x ∷ [])
all_push P xs x all one = All-append P xs (x ∷ []) all (all_from P (x ∷ []) (alone P x one))

pub within_get : {X : Type 0} (xs : List X) (i : ℕ) → i < length xs → (x : X) × (slice_get xs i ≡ Some x)
within_get [] i b = absurd (omega (arith, b))
within_get (x ∷ xs) zero b = (x, refl)
within_get (x ∷ xs) (suc i) b = within_get xs i (omega (arith, b))

pub pushed_get : {X : Type 0} (xs : List X) (y : X) (i : ℕ) (x : X) → slice_get (xs ++ y ∷ []) i ≡ Some x → (slice_get xs i ≡ Some x) ⊎ ((i ≡ length xs) × (y ≡ x))
pushed_get [] y zero x g = inr (refl, cc)
pushed_get [] y (suc i) x g = cc
pushed_get (z ∷ xs) y zero x g = inl g
pushed_get (z ∷ xs) y (suc i) x g = elim (pushed_get xs y i x g) [
  | inl h ↦ inl h
  | inr h ↦ inr (ap suc h.0, h.1)
]

pub front_get : {X : Type 0} (c : ℕ) (xs : List X) (i : ℕ) (x : X) → slice_get (take c xs) i ≡ Some x → slice_get xs i ≡ Some x
front_get zero xs i x h = cc
front_get (suc c) [] i x h = cc
front_get (suc c) (y ∷ ys) zero x h = h
front_get (suc c) (y ∷ ys) (suc i) x h = front_get c ys i x h

pub pushed_front : {X : Type 0} (xs ys : List X) → take (length xs) (xs ++ ys) ≡ xs
pushed_front [] ys = refl
pushed_front (x ∷ xs) ys = ap (λ l. x ∷ l) (pushed_front xs ys)
