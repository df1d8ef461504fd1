-- How many objects there are, and whose needs stand where.
use Rattle.std.proofs.Common.{◌≡◌, ◌∙◌, sym, ap, refl, ℕ, zero, suc, ◌+◌, ◌≤◌, ◌<◌, List, [], ◌∷◌, ◌++◌, Some, length, drop, map, max, slice_get, arith, ◌⊎◌, inl, inr, append_assoc}
use Rattle.std.proofs.lemmas.List.{drop-append-le, length-drop}
use Rattle.load_model.specs.LoadList.{Object, Request, Asked, count_from, count_after, needs_from, requests_of}

pub count-append : (k : ℕ) (xs ys : List Asked) → count_from k (xs ++ ys) ≡ count_from (count_from k xs) ys
unfolding count_from
count-append k [] ys = refl
count-append k (x ∷ xs) ys = count-append (max k (suc x.target)) xs ys

pub count-le : (k : ℕ) (xs : List Asked) → k ≤ count_from k xs
unfolding count_from
count-le k [] = omega arith
count-le k (x ∷ xs) = let rest = count-le (max k (suc x.target)) xs in omega arith

pub count_push : (xs : List Asked) (a : Asked) → count_after (xs ++ a ∷ []) ≡ max (count_after xs) (suc a.target)
unfolding count_from
count_push xs a = count-append 1 xs (a ∷ [])

pub count_front : (xs ys : List Asked) → count_after xs ≤ count_after (xs ++ ys)
count_front xs ys = rw (count-append 1 xs ys) (count-le (count_after xs) ys)

pub slice_get-append : {X : Type 0} (xs ys : List X) (m : ℕ) (x : X) → slice_get (xs ++ ys) m ≡ Some x → (slice_get xs m ≡ Some x) ⊎ ((j : ℕ) × (slice_get ys j ≡ Some x))
slice_get-append [] ys m x h = inr (m, h)
slice_get-append (y ∷ xs) ys zero x h = inl h
slice_get-append (y ∷ xs) ys (suc m) x h = slice_get-append xs ys m x h

pub slice_get_left : {X : Type 0} (xs ys : List X) (m : ℕ) (x : X) → slice_get xs m ≡ Some x → slice_get (xs ++ ys) m ≡ Some x
slice_get_left [] ys m x h = cc
slice_get_left (y ∷ xs) ys zero x h = h
slice_get_left (y ∷ xs) ys (suc m) x h = slice_get_left xs ys m x h

by_of : (i : ℕ) (ns : List (List ℕ)) (j : ℕ) (r : Request) → slice_get (map (λ n. record { by = i; name = n }) ns) j ≡ Some r → i ≡ r.by
by_of i [] j r h = cc
by_of i (n ∷ ns) zero r h = cc
by_of i (n ∷ ns) (suc j) r h = by_of i ns j r h

-- the needs of the objects from the i-th on are asked by no object below it
by_from : (i : ℕ) (os : List Object) (j : ℕ) (r : Request) → slice_get (needs_from i os) j ≡ Some r → i ≤ r.by
by_from i [] j r h = cc
by_from i (o ∷ os) j r h =
    elim (slice_get-append (map (λ n. record { by = i; name = n }) o.face.needs) (needs_from (suc i) os) j r h) [
      | inl e ↦ let same = by_of i o.face.needs j r e in omega arith
      | inr e ↦ let above = by_from (suc i) os e.0 r e.1 in omega arith
    ]

pub needs-append : (i : ℕ) (xs ys : List Object) → needs_from i (xs ++ ys) ≡ needs_from i xs ++ needs_from (i + length xs) ys
needs-append i [] ys = let e : i + 0 ≡ i = omega arith in rw e refl
needs-append i (x ∷ xs) ys =
    let e : suc i + length xs ≡ i + suc (length xs) = omega arith in
    ap (λ rs. map (λ n. record { by = i; name = n }) x.face.needs ++ rs) (needs-append (suc i) xs ys)
    ∙ sym (append_assoc (map (λ n. record { by = i; name = n }) x.face.needs) (needs_from (suc i) xs) (needs_from (suc i + length xs) ys))
    ∙ ap (λ m. (map (λ n. record { by = i; name = n }) x.face.needs ++ needs_from (suc i) xs) ++ needs_from m ys) e

-- a request of one of the first objects stands among the requests of these
pub early_request : (opening : List (List ℕ)) (i : ℕ) (xs ys : List Object) (m : ℕ) (r : Request) → i ≤ length xs → slice_get (requests_of opening i (xs ++ ys)) m ≡ Some r → r.by < length xs → slice_get (requests_of opening i xs) m ≡ Some r
early_request opening i xs ys m r le h below =
    let cut : drop i (xs ++ ys) ≡ drop i xs ++ ys = drop-append-le i xs ys le in
    let size : i + length (drop i xs) ≡ length xs = omega (arith, length-drop i xs) in
    let parts : requests_of opening i (xs ++ ys) ≡ requests_of opening i xs ++ needs_from (length xs) ys =
    ap (λ os. map (λ n. record { by = 0; name = n }) opening ++ needs_from i os) cut
    ∙ ap (λ rs. map (λ n. record { by = 0; name = n }) opening ++ rs) (needs-append i (drop i xs) ys ∙ ap (λ k. needs_from i (drop i xs) ++ needs_from k ys) size)
    ∙ sym (append_assoc (map (λ n. record { by = 0; name = n }) opening) (needs_from i (drop i xs)) (needs_from (length xs) ys)) in
    elim (slice_get-append (requests_of opening i xs) (needs_from (length xs) ys) m r (ap (λ rs. slice_get rs m) (sym parts) ∙ h)) [
      | inl e ↦ e
      | inr e ↦ let above = by_from (length xs) ys e.0 r e.1 in absurd (omega arith)
    ]
