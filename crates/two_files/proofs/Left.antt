-- What reads the same where its bytes are left
use Rattle.std.proofs.Common.{◌≡◌, ℕ, zero, suc, ◌+◌, ◌≤◌, ◌<◌, true, List, [], ◌∷◌, length, drop, take, slice_index, arith, refl, sym, ap, ◌∙◌, length-drop}
use Rattle.std.specs.List.{list_all}
use Rattle.std.proofs.lemmas.List.{ext_get_or, get_or-drop, get_or-take, length-take}
use Rattle.std.proofs.lemmas.Bool.Decides.{nat_tests}
use Rattle.byteorder.specs.Endian.{little_from}
use Rattle.byte_view.specs.Numbers.{number_at}
use Rattle.two_files.specs.Kept.{KeepsBytes, Range, is_left, misses}

little_left : (n i : ℕ) (b c : List ℕ) → ((k : ℕ) → k < n → slice_index c (i + k) ≡ slice_index b (i + k)) → little_from i n c ≡ little_from i n b
little_left zero i b c each = refl
little_left (suc n) i b c each =
    let here : slice_index c i ≡ slice_index b i =
    ap (λ k. slice_index c k) (omega arith) ∙ each 0 (omega arith) ∙ ap (λ k. slice_index b k) (omega arith) in
    let rest = little_left n (suc i) b c (λ k h. ap (λ m. slice_index c m) (omega arith) ∙ each (suc k) (omega arith) ∙ ap (λ m. slice_index b m) (omega arith)) in
    rw (here, rest) refl

number_left : (n at : ℕ) (b c : List ℕ) → ((k : ℕ) → k < n → slice_index c (at + k) ≡ slice_index b (at + k)) → number_at n c at ≡ number_at n b at
unfolding number_at
number_left n at b c each =
    little_left n 0 (drop at b) (drop at c)
    (λ k h. get_or-drop at c (0 + k) 0 ∙ ap (λ m. slice_index c m) (omega arith) ∙ each k h ∙ ap (λ m. slice_index b m) (omega arith) ∙ sym (get_or-drop at b (0 + k) 0))

-- a place of a part that no range meets
pub misses_left : (at n k : ℕ) (written : List Range) → k < n → list_all (λ r. misses at n r) written ≡ true → is_left (at + k) written
misses_left at n k [] h all = refl
misses_left at n k (r ∷ more) h all = left_step at n k r more h all (misses_left at n k more h)
  where
    left_step : (at n k : ℕ) (r : Range) (more : List Range) → k < n → list_all (λ q. misses at n q) (r ∷ more) ≡ true → (list_all (λ q. misses at n q) more ≡ true → is_left (at + k) more) → is_left (at + k) (r ∷ more)
    left_step at n k r more h all on = grind (arith, nat_tests)

-- a word that no range meets
pub word_left : (n at : ℕ) (b c : List ℕ) (written : List Range) → KeepsBytes b c written → at + n ≤ length b → list_all (λ r. misses at n r) written ≡ true → number_at n c at ≡ number_at n b at
word_left n at b c written keeps inside all =
    number_left n at b c (λ k h. keeps.bytes (at + k) (omega arith) (misses_left at n k written h all))

-- a part that no range meets
pub part_left : (n at : ℕ) (b c : List ℕ) (written : List Range) → KeepsBytes b c written → at + n ≤ length b → list_all (λ r. misses at n r) written ≡ true → take n (drop at c) ≡ take n (drop at b)
part_left n at b c written keeps inside all =
    let longer : length b ≤ length c = keeps.longer in
    let olds : length (take n (drop at b)) ≡ n = simp (length-take, length-drop) (omega arith) in
    let news : length (take n (drop at c)) ≡ n = simp (length-take, length-drop) (omega arith) in
    ext_get_or 0 (take n (drop at c)) (take n (drop at b)) (news ∙ sym olds)
    (λ i h.
    let low : i < n = omega (arith, news) in
    get_or-take n (drop at c) i 0 low ∙ get_or-drop at c i 0
    ∙ keeps.bytes (at + i) (omega arith) (misses_left at n i written low all)
    ∙ sym (get_or-take n (drop at b) i 0 low ∙ get_or-drop at b i 0))
