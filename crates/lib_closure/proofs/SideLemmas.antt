-- Three lists side by side, from a place on.
use Rattle.std.proofs.Common.{◌≡◌, ◌∙◌, sym, ap, refl, ℕ, ◌+◌, ◌≤◌, List, [], ◌∷◌, Option, Some, None, drop, length, map, slice_get, zip}
use Rattle.answers.specs.First.{first_some}
use Rattle.lib_closure.proofs.PlaceLemmas.{drop_all, drop_next, none_then, some_then}

zip_nothing : {X : Type 0} (Y : Type 0) (xs : List X) → ◌≡◌ {A = List (X × Y)} (zip xs []) []
zip_nothing Y [] = refl
zip_nothing Y (x ∷ xs) = refl

module _ {A B C D : Type 0} (f : A × (B × C) → Option D) (xs : List A) (ys : List B) (zs : List C) where
  at_place : (i : ℕ) (a : A) (b : B) (c : C) → slice_get xs i ≡ Some a → slice_get ys i ≡ Some b → slice_get zs i ≡ Some c → zip (drop i xs) (zip (drop i ys) (drop i zs)) ≡ (a, (b, c)) ∷ zip (drop (i + 1) xs) (zip (drop (i + 1) ys) (drop (i + 1) zs))
  at_place i a b c r g h =
      ap (λ l. zip l (zip (drop i ys) (drop i zs))) (drop_next xs i a r)
      ∙ ap (λ l. zip (a ∷ drop (i + 1) xs) (zip l (drop i zs))) (drop_next ys i b g)
      ∙ ap (λ l. zip (a ∷ drop (i + 1) xs) (zip (b ∷ drop (i + 1) ys) l)) (drop_next zs i c h)

  pub sides_passed : (i : ℕ) (a : A) (b : B) (c : C) (whole : Option D) → slice_get xs i ≡ Some a → slice_get ys i ≡ Some b → slice_get zs i ≡ Some c → f (a, (b, c)) ≡ None → first_some (map f (zip (drop i xs) (zip (drop i ys) (drop i zs)))) ≡ whole → first_some (map f (zip (drop (i + 1) xs) (zip (drop (i + 1) ys) (drop (i + 1) zs)))) ≡ whole
  sides_passed i a b c whole r g h none inv =
      sym (ap (λ l. first_some (map f l)) (at_place i a b c r g h) ∙ none_then (f (a, (b, c))) (map f (zip (drop (i + 1) xs) (zip (drop (i + 1) ys) (drop (i + 1) zs)))) none) ∙ inv

  pub sides_here : (i : ℕ) (a : A) (b : B) (c : C) (d : D) (whole : Option D) → slice_get xs i ≡ Some a → slice_get ys i ≡ Some b → slice_get zs i ≡ Some c → f (a, (b, c)) ≡ Some d → first_some (map f (zip (drop i xs) (zip (drop i ys) (drop i zs)))) ≡ whole → Some d ≡ whole
  sides_here i a b c d whole r g h some inv =
      sym (ap (λ l. first_some (map f l)) (at_place i a b c r g h) ∙ some_then (f (a, (b, c))) d (map f (zip (drop (i + 1) xs) (zip (drop (i + 1) ys) (drop (i + 1) zs)))) some) ∙ inv

  pub first_side_over : (i : ℕ) (whole : Option D) → length xs ≤ i → first_some (map f (zip (drop i xs) (zip (drop i ys) (drop i zs)))) ≡ whole → ◌≡◌ {A = Option D} None whole
  first_side_over i whole h inv = sym (ap (λ l. first_some (map f (zip l (zip (drop i ys) (drop i zs))))) (drop_all xs i h)) ∙ inv

  pub second_side_over : (i : ℕ) (whole : Option D) → length ys ≤ i → first_some (map f (zip (drop i xs) (zip (drop i ys) (drop i zs)))) ≡ whole → ◌≡◌ {A = Option D} None whole
  second_side_over i whole h inv = sym (ap (λ l. first_some (map f (zip (drop i xs) (zip l (drop i zs))))) (drop_all ys i h) ∙ ap (λ l. first_some (map f l)) (zip_nothing (B × C) (drop i xs))) ∙ inv

  pub third_side_over : (i : ℕ) (whole : Option D) → length zs ≤ i → first_some (map f (zip (drop i xs) (zip (drop i ys) (drop i zs)))) ≡ whole → ◌≡◌ {A = Option D} None whole
  third_side_over i whole h inv =
      sym (ap (λ l. first_some (map f (zip (drop i xs) (zip (drop i ys) l)))) (drop_all zs i h)
      ∙ ap (λ l. first_some (map f (zip (drop i xs) l))) (zip_nothing C (drop i ys)) ∙ ap (λ l. first_some (map f l)) (zip_nothing (B × C) (drop i xs))) ∙ inv
