-- Lists that only grew, and the log of requests by the objects that ask.
use Rattle.std.proofs.Common.{◌≡◌, ◌∙◌, sym, ap, refl, ℕ, zero, suc, ◌+◌, ◌≤◌, ◌<◌, List, [], ◌∷◌, ◌++◌, Some, length, take, slice_get, arith, ◌⊎◌, inl, inr, append_assoc}
use Rattle.std.proofs.lemmas.List.{append-nil, take-take}
use Rattle.load_model.specs.Candidates.{path_by}
use Rattle.load_model.specs.LoadList.{Object}
use Rattle.load_requests.specs.Standing.{asked_to, needs_asked}

pub get_push : {X : Type 0} (xs : List X) (x : X) (m : ℕ) (y : X) → slice_get (xs ++ x ∷ []) m ≡ Some y → (slice_get xs m ≡ Some y) ⊎ ((m ≡ length xs) × (x ≡ y))
get_push [] x zero y h = inr (refl, cc)
get_push [] x (suc m) y h = cc
get_push (z ∷ xs) x zero y h = inl h
get_push (z ∷ xs) x (suc m) y h =
    elim (get_push xs x m y h) [
      | inl e ↦ inl e
      | inr e ↦ inr (ap suc e.0, e.1)
    ]

pub get_taken : {X : Type 0} (c : ℕ) (ys : List X) (i : ℕ) (x : X) → slice_get (take c ys) i ≡ Some x → slice_get ys i ≡ Some x
get_taken zero ys i x h = cc
get_taken (suc c) [] i x h = cc
get_taken (suc c) (y ∷ ys) zero x h = h
get_taken (suc c) (y ∷ ys) (suc i) x h = get_taken c ys i x h

-- an element stays at its place
pub get_kept : {X : Type 0} (c : ℕ) (xs ys : List X) (i : ℕ) (x : X) → take c ys ≡ xs → slice_get xs i ≡ Some x → slice_get ys i ≡ Some x
get_kept c xs ys i x e h = get_taken c ys i x (ap (λ zs. slice_get zs i) e ∙ h)

get_front : {X : Type 0} (c : ℕ) (ys : List X) (i : ℕ) (x : X) → slice_get ys i ≡ Some x → (c ≤ i) ⊎ (slice_get (take c ys) i ≡ Some x)
get_front zero ys i x h = inl (omega arith)
get_front (suc c) [] i x h = cc
get_front (suc c) (y ∷ ys) zero x h = inr h
get_front (suc c) (y ∷ ys) (suc i) x h =
    elim (get_front c ys i x h) [
      | inl e ↦ inl (omega (arith, e))
      | inr e ↦ inr e
    ]

-- an element is new, or it was there
pub get_cases : {X : Type 0} (c : ℕ) (xs ys : List X) (i : ℕ) (x : X) → take c ys ≡ xs → slice_get ys i ≡ Some x → (c ≤ i) ⊎ (slice_get xs i ≡ Some x)
get_cases c xs ys i x e h =
    elim (get_front c ys i x h) [
      | inl w ↦ inl w
      | inr w ↦ inr (ap (λ zs. slice_get zs i) (sym e) ∙ w)
    ]

pub get_there : {X : Type 0} (xs : List X) (i : ℕ) → i < length xs → (x : X) × (slice_get xs i ≡ Some x)
get_there [] i h = absurd (omega arith)
get_there (x ∷ xs) zero h = (x, refl)
get_there (x ∷ xs) (suc i) h = get_there xs i (omega arith)

-- a list that grew twice
pub front_on : {X : Type 0} (m n : ℕ) (xs ys zs : List X) → m ≤ n → take n zs ≡ ys → take m ys ≡ xs → take m zs ≡ xs
front_on m n xs ys zs le e f = sym (take-take m n zs le) ∙ ap (take m) e ∙ f

-- the path of the program stays
pub start_kept : (xs ys os : List Object) → 0 < length xs → os ≡ xs ++ ys → path_by (slice_get os 0) ≡ path_by (slice_get xs 0)
start_kept [] ys os h e = absurd (omega arith)
start_kept (x ∷ xs) ys os h e = ap (λ zs. path_by (slice_get zs 0)) e

-- one request more of an object
pub asked_push : (k : ℕ) (ns : List (List ℕ)) (n : List ℕ) (ts : List ℕ) (t : ℕ) → length ts ≡ length ns → asked_to k (ns ++ n ∷ []) (ts ++ t ∷ []) ≡ asked_to k ns ts ++ record { request = record { by = k; name = n }; target = t } ∷ []
asked_push k [] n [] t h = refl
asked_push k [] n (u ∷ ts) t h = absurd (omega arith)
asked_push k (m ∷ ns) n [] t h = absurd (omega arith)
asked_push k (m ∷ ns) n (u ∷ ts) t h = ap (λ log. record { request = record { by = k; name = m }; target = u } ∷ log) (asked_push k ns n ts t (omega arith))

-- objects behind those that asked say nothing of the log
pub needs_front : (k : ℕ) (os more : List Object) (tss : List (List ℕ)) → length tss ≤ length os → needs_asked k (os ++ more) tss ≡ needs_asked k os tss
needs_front k [] [] tss h = refl
needs_front k [] (o ∷ more) [] h = refl
needs_front k [] (o ∷ more) (ts ∷ tss) h = absurd (omega arith)
needs_front k (o ∷ os) more [] h = refl
needs_front k (o ∷ os) more (ts ∷ tss) h = ap (λ log. asked_to k o.face.needs ts ++ log) (needs_front (suc k) os more tss (omega arith))

rest_none : (k : ℕ) (p : Object) (os : List Object) (ts : List ℕ) → needs_asked k (p ∷ os) (ts ∷ []) ≡ asked_to k p.face.needs ts
rest_none k p [] ts = append-nil (asked_to k p.face.needs ts)
rest_none k p (q ∷ os) ts = append-nil (asked_to k p.face.needs ts)

-- one object more that asked
pub needs_push : (k : ℕ) (os : List Object) (tss : List (List ℕ)) (ts : List ℕ) (o : Object) → slice_get os (length tss) ≡ Some o → needs_asked k os (tss ++ ts ∷ []) ≡ needs_asked k os tss ++ asked_to (k + length tss) o.face.needs ts
needs_push k [] tss ts o h = cc
needs_push k (p ∷ os) [] ts o h =
    let same : p ≡ o = cc in
    let z : k ≡ k + 0 = omega arith in
    rest_none k p os ts ∙ ap (λ q. asked_to k q.face.needs ts) same ∙ ap (λ i. asked_to i o.face.needs ts) z
needs_push k (p ∷ os) (us ∷ tss) ts o h =
    let z : suc k + length tss ≡ k + suc (length tss) = omega arith in
    ap (λ log. asked_to k p.face.needs us ++ log) (needs_push (suc k) os tss ts o h ∙ ap (λ i. needs_asked (suc k) os tss ++ asked_to i o.face.needs ts) z)
    ∙ sym (append_assoc (asked_to k p.face.needs us) (needs_asked (suc k) os tss) (asked_to (k + suc (length tss)) o.face.needs ts))
