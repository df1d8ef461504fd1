-- Elements of lists that are made of others, and the first that is there.
use Rattle.std.proofs.Common.{◌≡◌, ◌∙◌, sym, ap, refl, ℕ, zero, suc, ◌+◌, List, [], ◌∷◌, Option, Some, None, slice_get, arith, inl, inr}
use Rattle.std.specs.List.{enumerate_from, flat_map}
use Rattle.answers.specs.First.{first_some}
use Rattle.load_model.proofs.Counts.{slice_get-append, slice_get_left}
use Rattle.load_model.proofs.History.{at_second}

pub flat_out : {A B : Type 0} (f : A → List B) (xs : List A) (m : ℕ) (y : B) → slice_get (flat_map f xs) m ≡ Some y → (i : ℕ) × (x : A) × (k : ℕ) × (slice_get xs i ≡ Some x) × (slice_get (f x) k ≡ Some y)
flat_out f [] m y h = cc
flat_out f (x ∷ xs) m y h =
    elim (slice_get-append (f x) (flat_map f xs) m y h) [
      | inl e ↦ (0, x, m, refl, e)
      | inr e ↦ let w = flat_out f xs e.0 y e.1 in (suc w.0, w.1, w.2, w.3, w.4)
    ]

pub flat_in : {A B : Type 0} (f : A → List B) (xs : List A) (i k : ℕ) (x : A) (y : B) → slice_get xs i ≡ Some x → slice_get (f x) k ≡ Some y → (m : ℕ) × (slice_get (flat_map f xs) m ≡ Some y)
flat_in f [] i k x y g h = cc
flat_in f (z ∷ xs) zero k x y g h =
    let same : z ≡ x = cc in
    (k, slice_get_left (f z) (flat_map f xs) k y (ap (λ t. slice_get (f t) k) same ∙ h))
flat_in f (z ∷ xs) (suc i) k x y g h =
    let w = flat_in f xs i k x y g h in
    let v = at_second (f z) (flat_map f xs) w.0 y w.1 in
    (v.0, v.1)

-- nothing is there where no element is
pub all_none : {A : Type 0} (xs : List (Option A)) → first_some xs ≡ None → (i : ℕ) (x : Option A) → slice_get xs i ≡ Some x → x ≡ None
all_none [] h i x g = cc
all_none (None ∷ xs) h zero x g = let e : None ≡ x = cc in sym e
all_none (None ∷ xs) h (suc i) x g = all_none xs h i x g
all_none (Some y ∷ xs) h i x g = cc

pub none_first : {A : Type 0} (xs : List (Option A)) → ((i : ℕ) (x : Option A) → slice_get xs i ≡ Some x → x ≡ None) → first_some xs ≡ None
none_first [] h = refl
none_first (None ∷ xs) h = none_first xs (λ i x g. h (suc i) x g)
none_first (Some y ∷ xs) h = let no : Some y ≡ None = h 0 (Some y) refl in cc

pub numbered_out : {A : Type 0} (k : ℕ) (xs : List A) (i : ℕ) (p : ℕ × A) → slice_get (enumerate_from k xs) i ≡ Some p → (p.0 ≡ k + i) × (slice_get xs i ≡ Some p.1)
numbered_out k [] i p h = cc
numbered_out {A = A} k (x ∷ xs) zero p h = let e : (k, x) ≡ p = cc in (ap (λ (q : ℕ × A). q.0) (sym e) ∙ (let z : k ≡ k + 0 = omega arith in z), ap (λ (q : ℕ × A). Some q.1) e)
numbered_out k (x ∷ xs) (suc i) p h =
    let w = numbered_out (k + 1) xs i p h in
    (w.0 ∙ (let z : k + 1 + i ≡ k + suc i = omega arith in z), w.1)

pub numbered_in : {A : Type 0} (k : ℕ) (xs : List A) (i : ℕ) (x : A) → slice_get xs i ≡ Some x → slice_get (enumerate_from k xs) i ≡ Some (k + i, x)
numbered_in k [] i x h = cc
numbered_in k (y ∷ xs) zero x h =
    let e : y ≡ x = cc in
    let z : k ≡ k + 0 = omega arith in
    ap (λ n. Some (n, y)) z ∙ ap (λ t. Some (k + 0, t)) e
numbered_in k (y ∷ xs) (suc i) x h =
    let z : k + 1 + i ≡ k + suc i = omega arith in
    numbered_in (k + 1) xs i x h ∙ ap (λ n. Some (n, x)) z
