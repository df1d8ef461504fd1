-- Two lists side by side, place by place.
use Rattle.std.proofs.Common.{◌≡◌, ◌∙◌, sym, ap, ap₂, refl, ℕ, zero, suc, ◌+◌, ◌<◌, ◌≤◌, List, [], ◌∷◌, ◌++◌, Option, Some, get_or, length, map, min, slice_get, take, zip, arith}
use Rattle.std.specs.List.{filter_map, flat_map}
use Rattle.std.specs.Option.{option_to_list}
use Rattle.std.proofs.lemmas.Grind.{flat_map-append}
use Rattle.std.proofs.lemmas.List.{append-nil, map-append, take_all}
use Rattle.std.proofs.lemmas.Slice.Zip.{length-zip}
use Rattle.version_files.proofs.AddingLemmas.{take_at}
use Rattle.version_files.proofs.TakenLemmas.{added, take_next}

zip_at : {A B : Type 0} (xs : List A) (ys : List B) (i : ℕ) (x : A) (y : B) → slice_get xs i ≡ Some x → slice_get ys i ≡ Some y → slice_get (zip xs ys) i ≡ Some (x, y)
zip_at [] ys i x y h g = cc
zip_at (a ∷ xs) [] i x y h g = cc
zip_at (a ∷ xs) (b ∷ ys) zero x y h g = let e : a ≡ x = cc in let f : b ≡ y = cc in ap₂ (λ p q. Some (p, q)) e f
zip_at (a ∷ xs) (b ∷ ys) (suc i) x y h g = zip_at xs ys i x y h g

pub pairs_taken : {A B : Type 0} (xs : List A) (ys : List B) (i : ℕ) → min (length xs) (length ys) ≤ i → take i (zip xs ys) ≡ zip xs ys
pairs_taken xs ys i h = take_all i (zip xs ys) (let e = length-zip xs ys in omega (arith, e))

-- What is made of each pair.
pub made_next : {A B Y : Type 0} (f : (A × B) → Y) (xs : List A) (ys : List B) (i : ℕ) (x : A) (y : B) (was now : List Y) → slice_get xs i ≡ Some x → slice_get ys i ≡ Some y → was ≡ map f (take i (zip xs ys)) → now ≡ was ++ f (x, y) ∷ [] → now ≡ map f (take (i + 1) (zip xs ys))
made_next f xs ys i x y was now h g e n =
    n ∙ ap (λ l. l ++ f (x, y) ∷ []) e
    ∙ sym (ap (map f) (take_at (zip xs ys) i (x, y) (zip_at xs ys i x y h g)) ∙ map-append f (take i (zip xs ys)) ((x, y) ∷ []))

pub made_all : {A B Y : Type 0} (f : (A × B) → Y) (xs : List A) (ys : List B) (i : ℕ) (now : List Y) → min (length xs) (length ys) ≤ i → now ≡ map f (take i (zip xs ys)) → now ≡ map f (zip xs ys)
made_all f xs ys i now h e = e ∙ ap (map f) (pairs_taken xs ys i h)

-- What some pairs give.
pub given_next : {A B Y : Type 0} (f : (A × B) → Option Y) (xs : List A) (ys : List B) (i : ℕ) (x : A) (y : B) → slice_get xs i ≡ Some x → slice_get ys i ≡ Some y → filter_map f (take i (zip xs ys)) ++ option_to_list (f (x, y)) ≡ filter_map f (take (i + 1) (zip xs ys))
given_next f xs ys i x y h g =
    added f (take i (zip xs ys)) (x, y) [] (filter_map f (take i (zip xs ys))) (filter_map f (take i (zip xs ys)) ++ option_to_list (f (x, y))) refl refl
    ∙ ap (filter_map f) (sym (take_at (zip xs ys) i (x, y) (zip_at xs ys i x y h g)))

-- Elements that are seen through a function, each of which gives a list.
pub flat_next : {W X A : Type 0} (f : X → List A) (v : W → X) (ws : List W) (i : ℕ) (w : W) → i < length ws → w ≡ get_or ws i w → flat_map f (map v (take i ws)) ++ f (v w) ≡ flat_map f (map v (take (i + 1) ws))
flat_next f v ws i w less r =
    ap (λ l. flat_map f (map v (take i ws)) ++ l) (sym (append-nil (f (v w))))
    ∙ sym (flat_map-append f (map v (take i ws)) (v w ∷ []))
    ∙ ap (flat_map f) (sym (map-append v (take i ws) (w ∷ [])))
    ∙ ap (λ l. flat_map f (map v l)) (sym (take_next ws i w less r))
