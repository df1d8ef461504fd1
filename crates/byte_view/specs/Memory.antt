-- Memory by address: what the loaded segments of a file hold (System V gABI, Program Loading).
use Rattle.std.specs.Prelude.{ℕ, ◌+◌, ◌-◌, ◌≤◌, Bool, cond, ◌==◌, ◌&&◌, nat_lt, nat_le, List, [], ◌∷◌, Option, Some, None, length, map, slice_get}
use Rattle.std.specs.List.{filter, find, range_with_len}
use Rattle.std.specs.Option.{option_and_then, option_map, unwrap_or}
use Rattle.byte_view.specs.Headers.{headers, is_load, memory_end}
use Rattle.byte_view.specs.declared.segments.Segment.{Segment}

-- The address is one of the segment's in memory.
abbrev pub holds : ℕ → Segment → Bool
holds addr s = is_load s && (nat_le s.vaddr addr && nat_lt addr (memory_end s))

-- Its byte there: the file's below the file size, and 0 from there on.
abbrev pub byte_of : List ℕ → ℕ → Segment → Option ℕ
byte_of file addr s =
    cond (nat_lt addr (s.vaddr + s.filesz)) (slice_get file (s.offset + (addr - s.vaddr))) (Some 0)

abbrev pub the_only : {X : Type 0} → List X → Option X
the_only [] = None
the_only (x ∷ []) = Some x
the_only (x ∷ y ∷ more) = None

-- The byte at an address, by the one segment that holds it.
unfoldable pub memory_in : List ℕ → List Segment → ℕ → Option ℕ
memory_in file segments addr =
    option_and_then (byte_of file addr) (the_only (filter (holds addr) segments))

abbrev pub memory_at : List ℕ → ℕ → Option ℕ
memory_at file addr = memory_in file (headers file) addr

-- The bytes at len addresses from addr on; 0 where no segment holds the address.
unfoldable pub memory_bytes : List ℕ → List Segment → ℕ → ℕ → List ℕ
memory_bytes file segments addr len =
    map (λ i. unwrap_or (memory_in file segments (addr + i)) 0) (range_with_len 0 len)

-- All len addresses from addr on lie within the segment's file size.
abbrev pub backs : ℕ → ℕ → Segment → Bool
backs addr len s = is_load s && (nat_le s.vaddr addr && nat_le (addr + len) (s.vaddr + s.filesz))

-- The file places where these addresses begin and end.
abbrev pub file_range : ℕ → ℕ → Segment → ℕ × ℕ
file_range addr len s = (s.offset + (addr - s.vaddr), s.offset + (addr - s.vaddr) + len)

-- The same by the segment that backs them all; no addresses are backed always.
unfoldable pub range_in : List Segment → ℕ → ℕ → Option (ℕ × ℕ)
range_in segments addr len =
    cond (len == 0) (Some (0, 0))
    (option_map (file_range addr len) (find (backs addr len) segments))

-- No two segments hold one address.
pub record AtMostOneHolds (segments : List Segment) : Type 0 where
  pub one : (addr : ℕ) → length (filter (holds addr) segments) ≤ 1
