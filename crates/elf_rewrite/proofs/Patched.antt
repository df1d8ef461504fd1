-- What patches write, and what they leave
use Rattle.std.proofs.Common.{◌≡◌, ℕ, ◌+◌, ◌-◌, ◌≤◌, ◌<◌, true, false, cond, List, [], ◌∷◌, ◌++◌, length, map, drop, take, slice_index, arith, refl, ap, ◌∙◌, length-append, length-drop}
use Rattle.std.specs.List.{All, list_all}
use Rattle.std.proofs.lemmas.List.{drop_at, get_or_append_left, length-take, length-take-le, places, take_at}
use Rattle.std.proofs.lemmas.List.Elements.{All-head, All-tail, All-weaker}
use Rattle.std.proofs.lemmas.Bool.Decides.{nat_tests}
use Rattle.two_files.specs.Kept.{KeepsBytes, Range, covers, is_left, misses}
use Rattle.two_files.proofs.Left.{part_left}
use Rattle.elf_rewrite.specs.declared.patch.Patch.{Patch}
use Rattle.elf_rewrite.specs.Patched.{end_of, range_of, written, patched}
use Rattle.elf_rewrite.specs.Ranges.{meets}

-- the byte at a place, which was old, after these patches
abbrev byte_over : ℕ → ℕ → List Patch → ℕ
byte_over i old [] = old
byte_over i old (p ∷ more) = byte_over i (cond (covers i (range_of p)) (slice_index p.bytes (i - p.at)) old) more

pub written_long : (b : List ℕ) (p : Patch) → end_of p ≤ length b → length (written b p) ≡ length b
written_long b p h = simp (length-append, length-take, length-drop) (omega arith)

written_byte : (b : List ℕ) (p : Patch) (i : ℕ) → end_of p ≤ length b → slice_index (written b p) i ≡ cond (covers i (range_of p)) (slice_index p.bytes (i - p.at)) (slice_index b i)
written_byte b p i h = grind (arith, nat_tests, places)

-- each patch ends in bounds
pub fits_after : (b : List ℕ) (p : Patch) (more : List Patch) → All (λ q. end_of q ≤ length b) (p ∷ more) → All (λ q. end_of q ≤ length (written b p)) more
fits_after b p more h =
    All-weaker (λ q. end_of q ≤ length b) (λ q. end_of q ≤ length (written b p)) (λ q g. omega (arith, written_long b p (All-head (λ q. end_of q ≤ length b) p more h))) more (All-tail (λ q. end_of q ≤ length b) p more h)

pub patched_long : (b : List ℕ) (ps : List Patch) → All (λ p. end_of p ≤ length b) ps → length (patched b ps) ≡ length b
patched_long b [] h = refl
patched_long b (p ∷ more) h =
    patched_long (written b p) more (fits_after b p more h) ∙ written_long b p (All-head (λ q. end_of q ≤ length b) p more h)

-- the byte at a place is what the last patch that covers it has there, else the old one
patched_byte : (b : List ℕ) (ps : List Patch) (i : ℕ) → All (λ p. end_of p ≤ length b) ps → slice_index (patched b ps) i ≡ byte_over i (slice_index b i) ps
patched_byte b [] i h = refl
patched_byte b (p ∷ more) i h =
    patched_byte (written b p) more i (fits_after b p more h)
    ∙ ap (λ x. byte_over i x more) (written_byte b p i (All-head (λ q. end_of q ≤ length b) p more h))

-- what no patch covers stays
over_none : (i old : ℕ) (ps : List Patch) → is_left i (map range_of ps) → byte_over i old ps ≡ old
over_none i old [] h = refl
over_none i old (p ∷ more) h = over_step i old p more h (λ x g. over_none i x more g)
  where
    over_step : (i old : ℕ) (p : Patch) (more : List Patch) → is_left i (map range_of (p ∷ more))
        → ((x : ℕ) → is_left i (map range_of more) → byte_over i x more ≡ x)
        → byte_over i old (p ∷ more) ≡ old
    over_step i old p more h on = grind (arith, nat_tests)

-- what patches leave, with other bytes behind
pub patched_keeps : (b rest : List ℕ) (ps : List Patch) → All (λ p. end_of p ≤ length b) ps → KeepsBytes b (patched b ps ++ rest) (map range_of ps)
patched_keeps b rest ps fit =
    let long : length (patched b ps) ≡ length b = patched_long b ps fit in
    record {
      longer = omega (arith, length-append (patched b ps) rest);
      bytes = λ i h left. get_or_append_left (patched b ps) rest 0 i (omega arith) ∙ (patched_byte b ps i fit ∙ over_none i (slice_index b i) ps left);
    }

-- a patch that the later ones miss reads back
pub reads_back : (b rest : List ℕ) (p : Patch) (more : List Patch) → end_of p ≤ length b → All (λ q. end_of q ≤ length b) more → list_all (λ r. misses p.at (length p.bytes) r) (map range_of more) ≡ true → take (length p.bytes) (drop p.at (patched b (p ∷ more) ++ rest)) ≡ p.bytes
reads_back b rest p more inside fit all =
    let long : length (written b p) ≡ length b = written_long b p inside in
    let later : take (length p.bytes) (drop p.at (patched (written b p) more ++ rest)) ≡ take (length p.bytes) (drop p.at (written b p)) = part_left (length p.bytes) p.at (written b p) (patched (written b p) more ++ rest) (map range_of more) (patched_keeps (written b p) rest more (rw long fit)) (omega arith) all in
    later ∙ ap (λ l. take (length p.bytes) l) (drop_at (take p.at b) (p.bytes ++ drop (p.at + length p.bytes) b) p.at (length-take-le p.at b (omega arith)))
    ∙ take_at p.bytes (drop (p.at + length p.bytes) b) (length p.bytes) refl

-- what lies within one of two ranges that share no place misses a part that lies within the other
pub apart_misses : (p r s : Range) (at n : ℕ) → meets r s ≡ false → r.0 ≤ p.0 → p.1 ≤ r.1 → p.0 < p.1 → s.0 ≤ at → at + n ≤ s.1 → 0 < n → misses at n p ≡ true
apart_misses p r s at n apart low high some from to more = grind (arith, nat_tests)
