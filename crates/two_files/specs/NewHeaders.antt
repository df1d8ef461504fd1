-- The new program headers
use Rattle.std.specs.Prelude.{ℕ, ◌≡◌, ◌==◌, ◌&&◌, Bool, true, cond, List, [], ◌∷◌, ◌++◌}
use Rattle.std.specs.List.{filter, list_any}
use Rattle.byte_view.specs.Headers.{is_interp, is_load}
use Rattle.byte_view.specs.declared.constants.TheConstants.{PT_DYNAMIC, PT_PHDR}
use Rattle.byte_view.specs.declared.segments.Segment.{Segment}

-- where a part of the new segment begins in the file and in memory, and its length
pub record SegmentPart : Type 0 where
  pub offset : ℕ
  pub addr : ℕ
  pub size : ℕ

-- a header moved to such a part
abbrev pub moved_to : SegmentPart → Segment → Segment
moved_to p s = record {
  kind = s.kind;
  flags = s.flags;
  offset = p.offset;
  vaddr = p.addr;
  paddr = p.addr;
  filesz = p.size;
  memsz = p.size;
  align = s.align;
}

-- the header table is moved, and the dynamic table where there is no room for it
abbrev pub move_header : SegmentPart → Bool → SegmentPart → Segment → Segment
move_header table moved dynamic s =
    cond (s.kind == PT_PHDR) (moved_to table s) (cond (moved
    && (s.kind == PT_DYNAMIC)) (moved_to dynamic s) s)

-- a header behind the last LOAD
abbrev pub add_load : Segment → List Segment → List Segment
add_load last [] = []
add_load last (s ∷ more) =
    cond (list_any is_load more) (s ∷ add_load last more) (cond (is_load s) (s ∷ (last ∷ more)) (s
    ∷ add_load last more))

-- a change of headers that leaves what a loader loads or reads as a path
pub record LeavesLoads (move : Segment → Segment) : Type 0 where
  pub loads : (s : Segment) → is_load s ≡ true → move s ≡ s
  pub paths : (s : Segment) → is_interp s ≡ true → move s ≡ s
  pub kinds : (s : Segment) → (move s).kind ≡ s.kind

-- the LOADs of the new headers are those of the old and one more, above them
pub record AddsLoad (old new : List Segment) (last : Segment) : Type 0 where
  pub loads : filter is_load new ≡ filter is_load old ++ last ∷ []
