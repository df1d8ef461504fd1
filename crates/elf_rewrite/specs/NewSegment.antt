-- Where the new segment begins in memory and in the file (System V gABI, Program Header)
use Rattle.std.specs.Prelude.{ℕ, ◌+◌, ◌-◌, ◌*◌, List, Option, Some, None, length, map, max, fold}
use Rattle.std.specs.List.{filter, find}
use Rattle.std.specs.Int.{next_multiple_of}
use Rattle.byte_view.specs.Headers.{e_phnum, headers, is_load, memory_end}
use Rattle.byte_view.specs.declared.segments.Segment.{Segment}
use Rattle.elf_rewrite.specs.declared.change.TheConstants.{PAGE}

-- Where the last LOAD ends in memory.
abbrev pub top_of : List Segment → ℕ
top_of segments = fold max 0 (map memory_end (filter is_load segments))

-- The first page above the LOADs that lies behind so many bytes in the file; address and place are
-- as far apart as those of the first LOAD.
abbrev pub addr_above : ℕ → ℕ → List Segment → Option Segment → ℕ
addr_above page len segments None = 0
addr_above page len segments (Some s) = next_multiple_of
    (max (top_of segments) (len + s.vaddr - s.offset)) page

abbrev pub segment_place_at : ℕ → Option Segment → ℕ
segment_place_at addr None = 0
segment_place_at addr (Some s) = addr + s.offset - s.vaddr

unfoldable pub segment_addr : List ℕ → ℕ
segment_addr b = addr_above PAGE (length b) (headers b) (find is_load (headers b))

unfoldable pub segment_place : List ℕ → ℕ
segment_place b = segment_place_at (segment_addr b) (find is_load (headers b))

-- The size of its first part, the program headers.
abbrev pub headers_size : List ℕ → ℕ
headers_size b = 56 * (e_phnum b + 1)
