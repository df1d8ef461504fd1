-- A dynamic table that was read, and the file that it was read from.
use Rattle.std.specs.Prelude.{ℕ, None, ◌+◌, ◌-◌, ◌*◌, ◌/◌, ◌≤◌, ◌≡◌, List, length, take, drop, map}
use Rattle.std.specs.List.{range_with_len}
use Rattle.byte_view.specs.Dynamic.{capacity_of, dynamic_capacity, dynamic_entries, strings_of}
use Rattle.byte_view.specs.DynamicFlaws.{dynamic_flaw}
use Rattle.byte_view.specs.Headers.{headers}
use Rattle.byte_view.specs.Numbers.{number_at}
use Rattle.byte_view.specs.declared.constants.TheConstants.{DYN_SIZE, D_VAL_AT}
use Rattle.byte_view.specs.declared.dynamic.Entry.{Entry}
use Rattle.byte_view.specs.declared.segments.Segment.{Segment}

-- The entries before the end, how many there is room for, and where the strings begin and end in
-- the file.
pub record Table : Type 0 where
  pub entries : List Entry
  pub capacity : ℕ
  pub from : ℕ
  pub to : ℕ

-- The table is that of the file, which has no flaw there.
pub record IsTableOf (t : Table) (file : List ℕ) : Type 0 where
  pub unflawed : dynamic_flaw file ≡ None
  pub entries : t.entries ≡ dynamic_entries file
  pub capacity : t.capacity ≡ dynamic_capacity file
  pub strings :
      take (t.to - t.from) (drop t.from file)
      ≡ strings_of file (headers file) (dynamic_entries file)
  pub order : t.from ≤ t.to
  pub within : t.to ≤ length file

-- The entry at a place of the file.
unfoldable pub entry_in : List ℕ → ℕ → Entry
entry_in file at = record { tag = number_at 8 file at; value = number_at 8 file (at + D_VAL_AT) }

-- The entries that the segment has room for, as its bytes in the file have them.
unfoldable pub table_in : List ℕ → Segment → List Entry
table_in file s =
    map (λ i. entry_in file (s.offset + DYN_SIZE * i)) (range_with_len 0 (capacity_of s))
