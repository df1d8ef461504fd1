-- Opened names, one after the other.
use Rattle.std.proofs.Common.{◌≡◌, ◌∙◌, sym, ap, ap₂, ℕ, zero, suc, ◌+◌, ◌≤◌, List, [], ◌∷◌, ◌++◌, Option, Some, length, min, slice_get, take, zip}
use Rattle.std.specs.List.{filter_map}
use Rattle.std.specs.Option.{option_to_list}
use Rattle.version_files.proofs.AddingLemmas.{all_taken, take_at}
use Rattle.version_files.proofs.TakenLemmas.{added}

zip_at : {A B : Type 0} (xs : List A) (ys : List B) (i : ℕ) (x : A) (y : B) → slice_get xs i ≡ Some x → slice_get ys i ≡ Some y → slice_get (zip xs ys) i ≡ Some (x, y)
zip_at [] ys i x y h g = cc
zip_at (a ∷ xs) [] i x y h g = cc
zip_at (a ∷ xs) (b ∷ ys) zero x y h g = let e : a ≡ x = cc in let f : b ≡ y = cc in ap₂ (λ p q. Some (p, q)) e f
zip_at (a ∷ xs) (b ∷ ys) (suc i) x y h g = zip_at xs ys i x y h g

-- The next opened name and its root.
pub opened_more : {Y : Type 0} (f : (List ℕ × ℕ) → Option Y) (xs : List (List ℕ)) (ys : List ℕ) (i : ℕ) (x : List ℕ) (y : ℕ) (start was now : List Y) → slice_get xs i ≡ Some x → slice_get ys i ≡ Some y → was ≡ start ++ filter_map f (take i (zip xs ys)) → now ≡ was ++ option_to_list (f (x, y)) → now ≡ start ++ filter_map f (take (i + 1) (zip xs ys))
opened_more f xs ys i x y start was now h g e n =
    added f (take i (zip xs ys)) (x, y) start was now e n
    ∙ ap (λ l. start ++ filter_map f l) (sym (take_at (zip xs ys) i (x, y) (zip_at xs ys i x y h g)))

pub opened_all : {Y : Type 0} (f : (List ℕ × ℕ) → Option Y) (xs : List (List ℕ)) (ys : List ℕ) (i : ℕ) (start now : List Y) → min (length xs) (length ys) ≤ i → now ≡ start ++ filter_map f (take i (zip xs ys)) → now ≡ start ++ filter_map f (zip xs ys)
opened_all f xs ys i start now h e = e ∙ ap (λ l. start ++ filter_map f l) (all_taken xs ys i h)
