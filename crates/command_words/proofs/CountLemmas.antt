-- The word of `gen` is the decimal form of at most one number, and of one from 1 to 1,000.
use Rattle.std.proofs.Common.{ℕ, zero, suc, ◌+◌, ◌<◌, ◌≤◌, ◌^◌, List, [], ◌∷◌, Bool, true, false, cond, Option, Some, None, ◌≡◌, ◌∙◌, ◌&&◌, inl, inr, refl, sym, ap, arith}
use Rattle.std.specs.Prelude.{nat_le}
use Rattle.std.specs.Fmt.{decimal}
use Rattle.std.specs.List.{find, range_with_len}
use Rattle.std.specs.Str.{bytes_eq}
use Rattle.std.proofs.lemmas.Bool.{and_from, and_parts, cases_lt, false≢true, le-leb, leb-true}
use Rattle.std.proofs.lemmas.Fmt.{decimal_injective}
use Rattle.std.proofs.lemmas.Slice.Eq.{bytes_eq-Decides}
use Rattle.elf_make.specs.Generator.{IsTreeSize}
use Rattle.command_words.specs.Words.{IsDecimalOf, count_told, tree_size}

abbrev writes : List ℕ → ℕ → Bool
writes text n = bytes_eq (decimal n) text

-- the number whose decimal form it is stands in the range
found_at : (text : List ℕ) (n k a : ℕ) → a ≤ n → n < a + suc k → a + suc k ≤ 2 ^ 63 → text ≡ decimal n → (a < n → find (writes text) (range_with_len (a + 1) k) ≡ Some n) → (b : Bool) → writes text a ≡ b → cond b (Some a) (find (writes text) (range_with_len (a + 1) k)) ≡ Some n
found_at text n k a low high small e more true h =
    let same : decimal a ≡ decimal n = (bytes_eq-Decides (decimal a) text).0 h ∙ e in
    ap Some (decimal_injective a n (omega (arith, low, high, small)) (omega (arith, low, high, small)) same)
found_at text n k a low high small e more false h =
    elim (cases_lt a n) [
      | inl less ↦ more less
      | inr rest ↦
          let same : a ≡ n = omega (arith, low, rest) in
          absurd (false≢true (sym h ∙ (bytes_eq-Decides (decimal a) text).1 (ap decimal same ∙ sym e)))
    ]

found : (text : List ℕ) (n k a : ℕ) → a ≤ n → n < a + k → a + k ≤ 2 ^ 63 → text ≡ decimal n → find (writes text) (range_with_len a k) ≡ Some n
found text n zero a low high small e = absurd (omega (arith, low, high))
found text n (suc k) a low high small e =
    found_at text n k a low high small e (λ less. found text n k (a + 1) (omega (arith, less)) (omega (arith, high)) (omega (arith, small)) e) (writes text a) refl

-- it is that of no number of the range
lost_at : (text : List ℕ) (k a : ℕ) → (text ≡ decimal a → ⊥) → find (writes text) (range_with_len (a + 1) k) ≡ None → (b : Bool) → writes text a ≡ b → cond b (Some a) (find (writes text) (range_with_len (a + 1) k)) ≡ None
lost_at text k a not_here more true h = absurd (not_here (sym ((bytes_eq-Decides (decimal a) text).0 h)))
lost_at text k a not_here more false h = more

lost : (text : List ℕ) (k a : ℕ) → ((n : ℕ) → a ≤ n → n < a + k → text ≡ decimal n → ⊥) → find (writes text) (range_with_len a k) ≡ None
lost text zero a none = refl
lost text (suc k) a none =
    lost_at text k a (λ e. none a (omega arith) (omega arith) e) (lost text k (a + 1) (λ n low high e. none n (omega (arith, low)) (omega (arith, high)) e)) (writes text a) refl

-- what is found stands in the range
within_at : (p : ℕ → Bool) (k a n : ℕ) → (find p (range_with_len (a + 1) k) ≡ Some n → (a + 1 ≤ n) × (n < a + 1 + k)) → (b : Bool) → cond b (Some a) (find p (range_with_len (a + 1) k)) ≡ Some n → (a ≤ n) × (n < a + suc k)
within_at p k a n more true h = let same : a ≡ n = cc in (omega (arith, same), omega (arith, same))
within_at p k a n more false h = let ends = more h in (omega (arith, ends.0), omega (arith, ends.1))

within : (p : ℕ → Bool) (k a n : ℕ) → find p (range_with_len a k) ≡ Some n → (a ≤ n) × (n < a + k)
within p zero a n h = absurd (cc)
within p (suc k) a n h = within_at p k a n (within p k (a + 1) n) (p a) h

pub count_is : (text : List ℕ) (n : ℕ) → 1 ≤ n → n ≤ 1000 → text ≡ decimal n → count_told text ≡ Some n
unfolding count_told
count_is text n low high e = found text n 1000 1 low (omega (arith, high)) (omega arith) e

pub no_count : (text : List ℕ) → ((n : ℕ) → 1 ≤ n → n ≤ 1000 → text ≡ decimal n → ⊥) → count_told text ≡ None
unfolding count_told
no_count text none = lost text 1000 1 (λ n low high e. none n low (omega (arith, high)) e)

pub count_sized : (text : List ℕ) (n : ℕ) → count_told text ≡ Some n → IsTreeSize n
unfolding count_told
count_sized text n h = let ends = within (writes text) 1000 1 n h in (ends.0, omega (arith, ends.1))

-- a number that was read, where it is small enough, is what is told
pub counted : (text : List ℕ) (number : Option ℕ) → IsDecimalOf text number → tree_size number ≡ count_told text
counted text None h = sym (no_count text (λ n low high e. h n (omega (arith, high)) e))
counted text (Some n) h = go (nat_le 1 n && nat_le n 1000) refl
  where
    go : (b : Bool) → (nat_le 1 n && nat_le n 1000) ≡ b → cond b (Some n) None ≡ count_told text
    go true e =
        let ends = and_parts (nat_le 1 n) (nat_le n 1000) e in
        sym (count_is text n (leb-true 1 n ends.0) (leb-true n 1000 ends.1) h.1)
    go false e = sym (no_count text (λ m low high is.
        let small = h.0 in
        let same : m ≡ n = decimal_injective m n (omega (arith, high)) (omega (arith, small)) (sym is ∙ h.1) in
        let least : 1 ≤ n = omega (arith, low, same) in
        let most : n ≤ 1000 = omega (arith, high, same) in
        false≢true (sym e ∙ and_from (nat_le 1 n) (nat_le n 1000) (le-leb 1 n least) (le-leb n 1000 most))))
