-- The first number below a bound that passes a test.
use Rattle.std.proofs.Common.{◌≡◌, ◌∙◌, sym, ap, refl, ℕ, zero, suc, ◌<◌, List, [], ◌∷◌, Bool, true, false, cond, ◌&&◌, ◌||◌, ◌==◌, Option, Some, None, filter, arith, inl, inr, min}
use Rattle.std.specs.List.{find}
use Rattle.std.specs.Option.{option_or}
use Rattle.std.proofs.lemmas.Bool.{and_from, and_right, cases_lt, eq-eqb, ne_eqb}
use Rattle.std.proofs.lemmas.List.Folds.{find-append}
use Rattle.load_model.specs.LoadList.{up_to}
use Rattle.load_model.specs.LoadList.{lesser_of}

kept_first : (b : Bool) (p : ℕ → Bool) (x : ℕ) (ys : List ℕ) (r : Option ℕ) → find p ys ≡ r → find p (cond b (x ∷ ys) ys) ≡ cond (b && p x) (Some x) r
kept_first true p x ys r h = ap (λ o. cond (p x) (Some x) o) h
kept_first false p x ys r h = h

pub find-filter : (t p : ℕ → Bool) (xs : List ℕ) → find p (filter t xs) ≡ find (λ j. t j && p j) xs
find-filter t p [] = refl
find-filter t p (x ∷ xs) = kept_first (t x) p x (filter t xs) (find (λ j. t j && p j) xs) (find-filter t p xs)

pub find_more : (p : ℕ → Bool) (n : ℕ) → find p (up_to (suc n)) ≡ option_or (find p (up_to n)) (cond (p n) (Some n) None)
unfolding up_to
find_more p n = find-append p (up_to n) (n ∷ [])

-- Tests that agree below the bound find the same.
pub find_alike : (p q : ℕ → Bool) (n : ℕ) → ((j : ℕ) → j < n → p j ≡ q j) → find p (up_to n) ≡ find q (up_to n)
unfolding up_to
find_alike p q zero h = refl
find_alike p q (suc n) h =
    find_more p n ∙ ap (λ o. option_or o (cond (p n) (Some n) None)) (find_alike p q n (λ j less. h j (omega arith)))
    ∙ ap (λ b. option_or (find q (up_to n)) (cond b (Some n) None)) (h n (omega arith)) ∙ sym (find_more q n)

below_more_of : (o : Option ℕ) (b : Bool) (n k : ℕ) → ((j : ℕ) → o ≡ Some j → j < n) → option_or o (cond b (Some n) None) ≡ Some k → k < suc n
below_more_of (Some i) b n k h e = let less : i < n = h i refl in let same : i ≡ k = cc in omega arith
below_more_of None true n k h e = let same : n ≡ k = cc in omega arith
below_more_of None false n k h e = cc

pub find_below : (p : ℕ → Bool) (n k : ℕ) → find p (up_to n) ≡ Some k → k < n
unfolding up_to
find_below p zero k h = cc
find_below p (suc n) k h = below_more_of (find p (up_to n)) (p n) n k (λ j e. find_below p n j e) (sym (find_more p n) ∙ h)

either_more : (o r : Option ℕ) (n : ℕ) (b c : Bool) → ((j : ℕ) → o ≡ Some j → j < n) → ((j : ℕ) → r ≡ Some j → j < n) → lesser_of (option_or o (cond b (Some n) None)) (option_or r (cond c (Some n) None)) ≡ option_or (lesser_of o r) (cond (b || c) (Some n) None)
either_more None None n true true h g = let e : min n n ≡ n = omega arith in ap Some e
either_more None None n true false h g = refl
either_more None None n false c h g = refl
either_more None (Some k) n true c h g = let less : k < n = g k refl in let e : min n k ≡ k = omega arith in ap Some e
either_more None (Some k) n false c h g = refl
either_more (Some i) None n b true h g = let less : i < n = h i refl in let e : min i n ≡ i = omega arith in ap Some e
either_more (Some i) None n b false h g = refl
either_more (Some i) (Some k) n b c h g = refl

-- The first that passes one of two tests is the lesser of both firsts.
pub lesser_either : (p q : ℕ → Bool) (n : ℕ) → lesser_of (find p (up_to n)) (find q (up_to n)) ≡ find (λ j. p j || q j) (up_to n)
unfolding up_to
lesser_either p q zero = refl
lesser_either p q (suc n) =
    ap (λ o. lesser_of o (find q (up_to (suc n)))) (find_more p n)
    ∙ ap (lesser_of (option_or (find p (up_to n)) (cond (p n) (Some n) None))) (find_more q n)
    ∙ either_more (find p (up_to n)) (find q (up_to n)) n (p n) (q n) (λ j e. find_below p n j e) (λ j e. find_below q n j e)
    ∙ ap (λ o. option_or o (cond (p n || q n) (Some n) None)) (lesser_either p q n) ∙ sym (find_more (λ j. p j || q j) n)

pub find_none : (p : ℕ → Bool) (n : ℕ) → ((j : ℕ) → j < n → p j ≡ false) → find p (up_to n) ≡ None
unfolding up_to
find_none p zero h = refl
find_none p (suc n) h =
    find_more p n ∙ ap (λ o. option_or o (cond (p n) (Some n) None)) (find_none p n (λ j less. h j (omega arith)))
    ∙ ap (λ b. cond b (Some n) None) (h n (omega arith))

pub find_first : (p : ℕ → Bool) (n k : ℕ) → k < n → p k ≡ true → ((j : ℕ) → j < k → p j ≡ false) → find p (up_to n) ≡ Some k
unfolding up_to
find_first p zero k less h before = absurd (omega arith)
find_first p (suc n) k less h before =
    find_more p n ∙ elim (cases_lt k n) [
      | inl a ↦ ap (λ o. option_or o (cond (p n) (Some n) None)) (find_first p n k a h before)
      | inr a ↦
          let same : k ≡ n = omega arith in
          ap (λ o. option_or o (cond (p n) (Some n) None)) (find_none p n (λ j l. before j (omega arith)))
          ∙ ap (λ b. cond b (Some n) None) (ap p (sym same) ∙ h) ∙ ap Some (sym same)
    ]

-- One entry is for one object.
pub one_target : (t : ℕ → Bool) (b : Bool) (target n : ℕ) → target < n → (b ≡ true → t target ≡ true) → find (λ j. t j && (b && (target == j))) (up_to n) ≡ cond b (Some target) None
one_target t true target n within h =
    let here : (target == target) ≡ true = eq-eqb target target refl in
    find_first (λ j. t j && (true && (target == j))) n target within (and_from (t target) (target == target) (h refl) here)
    (λ j less. and_right (t j) (target == j) (ne_eqb target j (λ e. absurd (omega arith))))
one_target t false target n within h = find_none (λ j. t j && (false && (target == j))) n (λ j less. and_right (t j) false refl)
