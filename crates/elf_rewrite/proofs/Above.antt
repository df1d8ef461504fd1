-- Where the new segment stands: above all LOADs in memory, behind the old bytes in the file, on a page in both.
use Rattle.std.proofs.Common.{◌≡◌, ℕ, ◌+◌, ◌-◌, ◌%◌, ◌≤◌, ◌^◌, Bool, true, false, cond, List, [], ◌∷◌, Some, None, length, max, map, refl, sym, subst, ◌∙◌, arith}
use Rattle.std.specs.Prelude.{fold}
use Rattle.std.specs.List.{All, filter, find}
use Rattle.std.specs.Int.{is_power_of_two, next_multiple_of}
use Rattle.std.specs.Int.Count.{ones}
use Rattle.std.proofs.lemmas.Bool.Decides.{nat_tests}
use Rattle.std.proofs.lemmas.List.Elements.{All-cons, All-head, All-nil}
use Rattle.byte_view.specs.HeaderFlaws.{has_bad_range, header_flaw, is_alignment}
use Rattle.byte_view.specs.Headers.{file_end, headers, is_load, memory_end}
use Rattle.byte_view.specs.Sound.{AreSound}
use Rattle.byte_view.specs.declared.segments.Segment.{Segment}
use Rattle.byte_view.proofs.Found.{find_all, find_passes}
use Rattle.byte_view.proofs.Loads.{sound_file}
use Rattle.elf_rewrite.specs.NewSegment.{segment_addr, segment_place, top_of}
use Rattle.two_files.proofs.Pages.{multiple_above, placed_page, same_page}

fold_above : (a : ℕ) (xs : List ℕ) → a ≤ fold max a xs
fold_above a [] = omega arith
fold_above a (x ∷ xs) = omega (arith, fold_above (max a x) xs)

ends_below : (a : ℕ) (xs : List Segment) → All (λ s. memory_end s ≤ fold max a (map memory_end xs)) xs
ends_below a [] = All-nil (λ s. memory_end s ≤ a)
ends_below a (x ∷ xs) =
    All-cons (λ s. memory_end s ≤ fold max (max a (memory_end x)) (map memory_end xs)) x xs (omega (arith, fold_above (max a (memory_end x)) (map memory_end xs))) (ends_below (max a (memory_end x)) xs)

-- each LOAD ends at or below the top
pub loads_below : (segments : List Segment) → All (λ s. memory_end s ≤ top_of segments) (filter is_load segments)
loads_below segments = ends_below 0 (filter is_load segments)

first_below_top : (top : ℕ) (xs : List Segment) (s : Segment) → All (λ t. memory_end t ≤ top) (filter is_load xs) → find is_load xs ≡ Some s → memory_end s ≤ top
first_below_top top [] s all e = absurd (cc)
first_below_top top (x ∷ xs) s all e = go (is_load x) all e (λ a. first_below_top top xs s a)
  where
    go : (b : Bool) → All (λ t. memory_end t ≤ top) (cond b (x ∷ filter is_load xs) (filter is_load xs)) → cond b (Some x) (find is_load xs) ≡ Some s → (All (λ t. memory_end t ≤ top) (filter is_load xs) → find is_load xs ≡ Some s → memory_end s ≤ top) → memory_end s ≤ top
    go true all e on = let same : x ≡ s = cc in subst (λ t. memory_end t ≤ top) same (All-head (λ t. memory_end t ≤ top) x (filter is_load xs) all)
    go false all e on = on all e

aligned : (len : ℕ) (s : Segment) → is_load s ≡ true → has_bad_range len s ≡ false → (is_power_of_two s.align ≡ true) × (4096 ≤ s.align) × (s.vaddr % s.align ≡ s.offset % s.align)
aligned len s load good = (grind (arith, nat_tests), grind (arith, nat_tests), grind (arith, nat_tests))

pub record IsAbove (b : List ℕ) : Type 0 where
  pub behind : length b ≤ segment_place b
  pub top : top_of (headers b) ≤ segment_addr b
  pub page : segment_addr b % 4096 ≡ 0
  pub place : segment_place b % 4096 ≡ 0

pub stands_above : (b : List ℕ) (s : Segment) → header_flaw b ≡ None → find is_load (headers b) ≡ Some s → IsAbove b
unfolding segment_addr segment_place
stands_above b s fine found =
    let sound : AreSound (length b) (headers b) = sound_file b fine in
    let load : is_load s ≡ true = find_passes is_load (headers b) s found in
    let good : has_bad_range (length b) s ≡ false = find_all is_load (has_bad_range (length b)) (headers b) s sound.mappable found in
    let a = aligned (length b) s load good in
    let same : s.vaddr % 4096 ≡ s.offset % 4096 = same_page s.align s.vaddr s.offset a.0 a.1 a.2 in
    let low : memory_end s ≤ top_of (headers b) = first_below_top (top_of (headers b)) (headers b) s (loads_below (headers b)) found in
    let n : ℕ = max (top_of (headers b)) (length b + s.vaddr - s.offset) in
    let m = multiple_above n in
    let above : top_of (headers b) ≤ next_multiple_of n 4096 = omega (arith, m.0) in
    record {
      behind = rw found (omega (arith, m.0));
      top = rw found above;
      page = rw found m.2;
      place = rw found (placed_page (next_multiple_of n 4096) s.vaddr s.offset m.2 same (omega (arith, m.0)));
    }

-- a LOAD of whole pages that lies in the file is one that a loader maps
pub new_good : (len : ℕ) (s : Segment) → s.filesz ≡ s.memsz → file_end s ≤ len → memory_end s ≤ 2 ^ 62 → s.align ≡ 4096 → s.vaddr % 4096 ≡ 0 → s.offset % 4096 ≡ 0 → has_bad_range len s ≡ false
unfolding ones
new_good len s size within low page addr place =
    let align : is_alignment s.align ≡ true = rw page refl in
    let same : s.vaddr % s.align ≡ s.offset % s.align = rw page (addr ∙ sym place) in
    grind (arith, nat_tests)
