-- What holds of the program headers of a file whose headers have no flaw.
use Rattle.std.specs.Prelude.{ℕ, ◌≡◌, ◌<◌, ◌≤◌, true, false, List, None, length, slice_index_or}
use Rattle.std.specs.List.{AllPairs, filter, list_any}
use Rattle.byte_view.specs.HeaderFlaws.{has_bad_range, header_flaw}
use Rattle.byte_view.specs.Headers.{headers, is_load, memory_end}
use Rattle.byte_view.specs.Memory.{AtMostOneHolds}
use Rattle.byte_view.specs.declared.segments.Segment.{Segment}

-- The segments are the program headers of such a file.
pub record IsReadFrom (segments : List Segment) (file : List ℕ) : Type 0 where
  pub same : segments ≡ headers file
  pub unflawed : header_flaw file ≡ None

-- The segments are in ascending order, and none begins below the end of one before it.
abbrev pub AreApart : List Segment → Type 0
AreApart segments = AllPairs (λ a b. (a.vaddr ≤ b.vaddr) × (memory_end a ≤ b.vaddr)) segments

-- A loader can map the segments from a file of this length.
pub record AreSound (len : ℕ) (segments : List Segment) : Type 0 where
  pub mappable :
      (k : ℕ) (d : Segment) → k < length segments
      → has_bad_range len (slice_index_or segments k d) ≡ false
  pub loaded : list_any is_load segments ≡ true
  pub apart : AreApart (filter is_load segments)
  pub one : AtMostOneHolds segments
