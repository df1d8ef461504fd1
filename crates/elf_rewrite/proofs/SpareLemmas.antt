-- What a rewriting leaves of the tables of a file
use Rattle.std.proofs.Common.{◌≡◌, ℕ, zero, suc, ◌+◌, ◌*◌, ◌<◌, ◌≤◌, ◌==◌, ◌&&◌, Bool, true, false, not, List, [], ◌∷◌, Some, None, length, take, drop, refl, arith}
use Rattle.std.specs.Prelude.{nat_lt, slice_get}
use Rattle.std.specs.List.{find, list_all}
use Rattle.std.proofs.lemmas.Bool.Decides.{nat_tests}
use Rattle.byte_view.specs.Dynamic.{capacity_of}
use Rattle.byte_view.specs.Headers.{headers, is_dynamic}
use Rattle.byte_view.specs.declared.segments.Segment.{Segment}
use Rattle.load_model.specs.VersionTables.{verneed_count}
use Rattle.load_model.specs.Faces.{first_flaw}
use Rattle.two_files.specs.Kept.{KeepsBytes, Range, misses}
use Rattle.two_files.proofs.Left.{part_left}
use Rattle.elf_rewrite.specs.Ranges.{first_overlap, from_place, meets, ranges_of, single_range}
use Rattle.elf_rewrite.specs.declared.change.Change.{Change}
use Rattle.elf_rewrite.proofs.ApartLemmas.{StandsApart, needs_apart, needs_behind, needs_beside, meets_flip, table_behind}
use Rattle.elf_rewrite.proofs.UnflawedLemmas.{has_table, room_there, unflawed_parts}
use Rattle.elf_rewrite.proofs.WrittenLemmas.{HasRoom, PassesWritten, need_listed, need_place, need_there, table_place, written_pass, written_ranges}

-- something is written, and it shares no place with a range
abbrev pub spares : Range → Range → Bool
spares s p = nat_lt p.0 p.1 && not (meets p s)

-- a file that was rewritten, but for its headers
pub record IsOver (b : List ℕ) (change : Change) (c : List ℕ) : Type 0 where
  pub unflawed : first_flaw b ≡ None
  pub apart : first_overlap b ≡ None
  pub room : HasRoom b change
  pub keeps : KeepsBytes b c (written_ranges b change)

inner_spared : (p r s : Range) → meets r s ≡ false → r.0 ≤ p.0 → p.1 ≤ r.1 → p.0 < p.1 → spares s p ≡ true
inner_spared p r s apart low high some = grind (arith, nat_tests)

pub header_there : (b : List ℕ) → slice_get (ranges_of b 1) 0 ≡ Some (0, 64)
unfolding ranges_of single_range
header_there b = refl

pub table_listed : (b : List ℕ) (s : Segment) → find is_dynamic (headers b) ≡ Some s → slice_get (ranges_of b 4) 0 ≡ Some (table_place s)
unfolding ranges_of single_range
table_listed b s e = rw e refl

pub table_some : (b : List ℕ) (s : Segment) → first_flaw b ≡ None → find is_dynamic (headers b) ≡ Some s → 0 < 16 * capacity_of s
table_some b s e found =
    let t = has_table b (unflawed_parts b e).dynamic in
    let same : t.segment ≡ s = let there = t.found in cc in
    let room : 16 ≤ t.segment.filesz = room_there (headers b) t.segment t.placed in
    let size : 16 ≤ s.filesz = rw same at room in
    omega arith

pub apart_pass : (b : List ℕ) (ss : List Range) (j : ℕ) (s : Range) → first_flaw b ≡ None → StandsApart b ss → slice_get ss j ≡ Some s → PassesWritten (spares s) b
apart_pass b ss j s e a h = record {
  place = inner_spared (32, 40) (0, 64) s (a.header.apart 0 j (0, 64) s (header_there b) h) (omega arith) (omega arith) (omega arith);
  number = inner_spared (56, 58) (0, 64) s (a.header.apart 0 j (0, 64) s (header_there b) h) (omega arith) (omega arith) (omega arith);
  files = λ k low. one_need b ss j s k low a h;
  table = λ d found. one_table b ss j s d e found a h;
}
  where
    one_need : (b : List ℕ) (ss : List Range) (j : ℕ) (s : Range) (k : ℕ) → k < verneed_count b → StandsApart b ss → slice_get ss j ≡ Some s → spares s (need_place b k + 4, need_place b k + 4 + 4) ≡ true
    one_need b ss j s k low a h =
        inner_spared (need_place b k + 4, need_place b k + 4 + 4) (from_place 16 (need_place b k)) s (a.needs.apart k j (from_place 16 (need_place b k)) s (need_there b k low) h) (omega arith) (omega arith) (omega arith)

    one_table : (b : List ℕ) (ss : List Range) (j : ℕ) (s : Range) (d : Segment) → first_flaw b ≡ None → find is_dynamic (headers b) ≡ Some d → StandsApart b ss → slice_get ss j ≡ Some s → spares s (table_place d) ≡ true
    one_table b ss j s d e found a h =
        let some : 0 < 16 * capacity_of d = table_some b d e found in
        inner_spared (table_place d) (table_place d) s (a.table.apart 0 j (table_place d) s (table_listed b d found) h) (omega arith) (omega arith) (omega arith)

-- the same bytes stand at a place
pub record SamePart (b c : List ℕ) (at size : ℕ) : Type 0 where
  pub parts : (k n : ℕ) → k + n ≤ size → take n (drop (at + k) c) ≡ take n (drop (at + k) b)

spared_misses : (s : Range) (at n : ℕ) (written : List Range) → s.0 ≤ at → at + n ≤ s.1 → 0 < n → list_all (spares s) written ≡ true → list_all (λ r. misses at n r) written ≡ true
spared_misses s at n [] low high some h = refl
spared_misses s at n (p ∷ more) low high some h = go (nat_lt p.0 p.1) refl (meets p s) refl h (λ g. spared_misses s at n more low high some g)
  where
    go : (a : Bool) → nat_lt p.0 p.1 ≡ a → (m : Bool) → meets p s ≡ m → ((a && not m) && list_all (spares s) more) ≡ true → (list_all (spares s) more ≡ true → list_all (λ r. misses at n r) more ≡ true) → (misses at n p && list_all (λ r. misses at n r) more) ≡ true
    go false t m u h on = absurd (cc)
    go true t true u h on = absurd (cc)
    go true t false u h on = let here : misses at n p ≡ true = grind (arith, nat_tests) in rw (here, on h) refl

spared_part : (b c : List ℕ) (written : List Range) (s : Range) (at n : ℕ) → KeepsBytes b c written → list_all (spares s) written ≡ true → s.1 ≤ length b → s.0 ≤ at → at + n ≤ s.1 → take n (drop at c) ≡ take n (drop at b)
spared_part b c written s at zero keeps h within low high = refl
spared_part b c written s at (suc n) keeps h within low high =
    part_left (suc n) at b c written keeps (omega arith) (spared_misses s at (suc n) written low high (omega arith) h)

pub spared_same : (b c : List ℕ) (written : List Range) (at size : ℕ) → KeepsBytes b c written → list_all (spares (at, at + size)) written ≡ true → at + size ≤ length b → SamePart b c at size
spared_same b c written at size keeps h within = record {
  parts = λ k n fits. spared_part b c written (at, at + size) (at + k) n keeps h within (omega arith) (omega arith);
}

-- a table that stands apart is left
pub table_same : (b : List ℕ) (change : Change) (c : List ℕ) (ss : List Range) (j at size : ℕ) → IsOver b change c → StandsApart b ss → slice_get ss j ≡ Some (at, at + size) → at + size ≤ length b → SamePart b c at size
table_same b change c ss j at size o a h within =
    spared_same b c (written_ranges b change) at size o.keeps (written_pass (spares (at, at + size)) b change o.room (apart_pass b ss j (at, at + size) o.unflawed a h)) within

-- of a need all but the word that names its file
inner_part : (p r s t : Range) → meets r s ≡ false → r.0 ≤ p.0 → p.1 ≤ r.1 → p.0 < p.1 → s.0 ≤ t.0 → t.1 ≤ s.1 → spares t p ≡ true
inner_part p r s t apart low high some from to = grind (arith, nat_tests)

need_pass : (b : List ℕ) (k : ℕ) (t : Range) → first_flaw b ≡ None → first_overlap b ≡ None → k < verneed_count b → need_place b k ≤ t.0 → t.1 ≤ need_place b k + 16 → spares t (need_place b k + 4, need_place b k + 4 + 4) ≡ true → PassesWritten (spares t) b
need_pass b k t e none low from to own = record {
  place = inner_part (32, 40) (0, 64) (from_place 16 (need_place b k)) t (behind b k none low) (omega arith) (omega arith) (omega arith) from to;
  number = inner_part (56, 58) (0, 64) (from_place 16 (need_place b k)) t (behind b k none low) (omega arith) (omega arith) (omega arith) from to;
  files = λ i h. other b k t i none low h from to own;
  table = λ d found. one_table b k t d e none low found from to;
}
  where
    behind : (b : List ℕ) (k : ℕ) → first_overlap b ≡ None → k < verneed_count b → meets (0, 64) (from_place 16 (need_place b k)) ≡ false
    behind b k none low = (needs_behind b none).apart 0 k (0, 64) (from_place 16 (need_place b k)) (header_there b) (need_listed b k low)

    one_table : (b : List ℕ) (k : ℕ) (t : Range) (d : Segment) → first_flaw b ≡ None → first_overlap b ≡ None → k < verneed_count b → find is_dynamic (headers b) ≡ Some d → need_place b k ≤ t.0 → t.1 ≤ need_place b k + 16 → spares t (table_place d) ≡ true
    one_table b k t d e none low found from to =
        let some : 0 < 16 * capacity_of d = table_some b d e found in
        inner_part (table_place d) (table_place d) (from_place 16 (need_place b k)) t ((needs_beside b none).apart 0 k (table_place d) (from_place 16 (need_place b k)) (table_listed b d found) (need_listed b k low)) (omega arith) (omega arith) (omega arith) from to

    distinct : (b : List ℕ) (i k : ℕ) → first_overlap b ≡ None → i < verneed_count b → k < verneed_count b → (i == k) ≡ false → meets (from_place 16 (need_place b i)) (from_place 16 (need_place b k)) ≡ false
    distinct b i k none hi hk h = go (nat_lt i k) refl
      where
        go : (l : Bool) → nat_lt i k ≡ l → meets (from_place 16 (need_place b i)) (from_place 16 (need_place b k)) ≡ false
        go true u = needs_apart b i k (from_place 16 (need_place b i)) (from_place 16 (need_place b k)) none (need_there b i hi) (need_there b k hk) (grind (arith, nat_tests))
        go false u = meets_flip (from_place 16 (need_place b k)) (from_place 16 (need_place b i)) (needs_apart b k i (from_place 16 (need_place b k)) (from_place 16 (need_place b i)) none (need_there b k hk) (need_there b i hi) (grind (arith, nat_tests)))

    other : (b : List ℕ) (k : ℕ) (t : Range) (i : ℕ) → first_overlap b ≡ None → k < verneed_count b → i < verneed_count b → need_place b k ≤ t.0 → t.1 ≤ need_place b k + 16 → spares t (need_place b k + 4, need_place b k + 4 + 4) ≡ true → spares t (need_place b i + 4, need_place b i + 4 + 4) ≡ true
    other b k t i none hk hi from to own = go (i == k) refl
      where
        go : (l : Bool) → (i == k) ≡ l → spares t (need_place b i + 4, need_place b i + 4 + 4) ≡ true
        go true u = let same : i ≡ k = grind (arith, nat_tests) in rw same own
        go false u = inner_part (need_place b i + 4, need_place b i + 4 + 4) (from_place 16 (need_place b i)) (from_place 16 (need_place b k)) t (distinct b i k none hi hk u) (omega arith) (omega arith) (omega arith) from to

pub need_head : (b : List ℕ) (change : Change) (c : List ℕ) (k : ℕ) → IsOver b change c → k < verneed_count b → need_place b k + 16 ≤ length b → SamePart b c (need_place b k) 4
need_head b change c k o low within =
    let own : spares (need_place b k, need_place b k + 4) (need_place b k + 4, need_place b k + 4 + 4) ≡ true = grind (arith, nat_tests) in
    spared_same b c (written_ranges b change) (need_place b k) 4 o.keeps (written_pass (spares (need_place b k, need_place b k + 4)) b change o.room (need_pass b k (need_place b k, need_place b k + 4) o.unflawed o.apart low (omega arith) (omega arith) own)) (omega arith)

pub need_tail : (b : List ℕ) (change : Change) (c : List ℕ) (k : ℕ) → IsOver b change c → k < verneed_count b → need_place b k + 16 ≤ length b → SamePart b c (need_place b k + 8) 8
need_tail b change c k o low within =
    let own : spares (need_place b k + 8, need_place b k + 8 + 8) (need_place b k + 4, need_place b k + 4 + 4) ≡ true = grind (arith, nat_tests) in
    spared_same b c (written_ranges b change) (need_place b k + 8) 8 o.keeps (written_pass (spares (need_place b k + 8, need_place b k + 8 + 8)) b change o.room (need_pass b k (need_place b k + 8, need_place b k + 8 + 8) o.unflawed o.apart low (omega arith) (omega arith) own)) (omega arith)

-- what is written lies behind the ELF header, but for two of its words
pub behind_header : (r : Range) → meets (0, 64) r ≡ false → r.0 < r.1 → 64 ≤ r.0
behind_header r h some = grind (arith, nat_tests)

pub needs_high : (b : List ℕ) (k : ℕ) → first_overlap b ≡ None → k < verneed_count b → 64 ≤ need_place b k
needs_high b k none low =
    behind_header (from_place 16 (need_place b k)) ((needs_behind b none).apart 0 k (0, 64) (from_place 16 (need_place b k)) (header_there b) (need_listed b k low)) (omega arith)

pub table_high : (b : List ℕ) (s : Segment) → first_flaw b ≡ None → first_overlap b ≡ None → find is_dynamic (headers b) ≡ Some s → 64 ≤ s.offset
table_high b s e none found =
    let some : 0 < 16 * capacity_of s = table_some b s e found in
    behind_header (table_place s) ((table_behind b none).apart 0 0 (0, 64) (table_place s) (header_there b) (table_listed b s found)) (omega arith)

-- a part of the ELF header that has neither of them
pub header_pass : (b : List ℕ) (at n : ℕ) → first_flaw b ≡ None → first_overlap b ≡ None → at + n ≤ 64 → misses at n (32, 40) ≡ true → misses at n (56, 58) ≡ true → PassesWritten (λ r. misses at n r) b
header_pass b at n e none high place number = record {
  place = place;
  number = number;
  files = λ k low. let far : 64 ≤ need_place b k = needs_high b k none low in far_misses at n (need_place b k + 4, need_place b k + 4 + 4) high (omega arith);
  table = λ s found. far_misses at n (table_place s) high (table_high b s e none found);
}
  where
    far_misses : (at n : ℕ) (r : Range) → at + n ≤ 64 → 64 ≤ r.0 → misses at n r ≡ true
    far_misses at n r high far = grind (arith, nat_tests)
