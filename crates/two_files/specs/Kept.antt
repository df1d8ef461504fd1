-- What a file leaves of another's bytes and of its memory
use Rattle.std.specs.Prelude.{ℕ, ◌+◌, ◌-◌, ◌≤◌, ◌<◌, ◌≡◌, Bool, false, ◌||◌, ◌&&◌, nat_le, nat_lt, List, Some, length, slice_index}
use Rattle.std.specs.List.{filter, list_any}
use Rattle.byte_view.specs.Headers.{headers}
use Rattle.byte_view.specs.Memory.{holds, memory_at, the_only}
use Rattle.byte_view.specs.declared.segments.Segment.{Segment}

-- The places from the first of a range up to behind its last.
abbrev pub Range : Type 0
Range = ℕ × ℕ

abbrev pub covers : ℕ → Range → Bool
covers i r = nat_le r.0 i && nat_lt i r.1

-- The range has none of the n places from a place on.
abbrev pub misses : ℕ → ℕ → Range → Bool
misses at n r = nat_le (at + n) r.0 || nat_le r.1 at

-- The place lies in none of the ranges.
abbrev pub is_left : ℕ → List Range → Type 0
is_left i written = list_any (λ r. covers i r) written ≡ false

-- Each byte stays but for those of the ranges; more may follow.
pub record KeepsBytes (b c : List ℕ) (written : List Range) : Type 0 where
  pub longer : length b ≤ length c
  pub bytes : (i : ℕ) → i < length b → is_left i written → slice_index c i ≡ slice_index b i

-- The file place of an address in a segment.
abbrev pub file_place_of : ℕ → Segment → ℕ
file_place_of addr s = s.offset + (addr - s.vaddr)

-- At each address of a LOAD of the file whose file place lies in none of the ranges, the memory of
-- another file is the same.
pub record SameImage (b c : List ℕ) (written : List Range) : Type 0 where
  pub same : (addr : ℕ) (s : Segment) → the_only (filter (holds addr) (headers b)) ≡ Some s
      → (addr - s.vaddr < s.filesz → is_left (file_place_of addr s) written) → memory_at c addr
      ≡ memory_at b addr
