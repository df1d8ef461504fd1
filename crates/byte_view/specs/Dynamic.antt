-- The dynamic table and its strings, read through memory (System V gABI, Dynamic Section and String
-- Table).
use Rattle.std.specs.Prelude.{ℕ, ◌+◌, ◌*◌, ◌/◌, ◌++◌, Bool, cond, ◌==◌, nat_lt, List, [], Option, Some, None, length, map, drop}
use Rattle.std.specs.List.{find, flat_map, before_first, range_with_len}
use Rattle.std.specs.Option.{option_map, unwrap_or}
use Rattle.byteorder.specs.Endian.{little_number}
use Rattle.byte_view.specs.Headers.{headers, is_dynamic}
use Rattle.byte_view.specs.Memory.{memory_bytes}
use Rattle.byte_view.specs.Numbers.{word_bytes}
use Rattle.byte_view.specs.declared.constants.TheConstants.{DT_NULL, DT_STRSZ, DT_STRTAB, DYN_SIZE, D_VAL_AT}
use Rattle.byte_view.specs.declared.dynamic.Entry.{Entry}
use Rattle.byte_view.specs.declared.segments.Segment.{Segment}

-- The entry in these bytes.
unfoldable pub entry_of : List ℕ → Entry
entry_of bytes =
    record { tag = little_number 8 bytes; value = little_number 8 (drop D_VAL_AT bytes) }

abbrev pub tagged : ℕ → ℕ → Entry
tagged tag value = record { tag = tag; value = value }

-- The bytes of an entry: its tag, and its value.
unfoldable pub entry_bytes : Entry → List ℕ
entry_bytes e = word_bytes 8 e.tag ++ word_bytes 8 e.value

abbrev pub entries_bytes : List Entry → List ℕ
entries_bytes entries = flat_map (λ e. entry_bytes e) entries

-- How many entries the segment has room for.
abbrev pub capacity_of : Segment → ℕ
capacity_of s = s.filesz / DYN_SIZE

-- All entries of the DYNAMIC segment, as memory has them.
unfoldable pub table_of : List ℕ → List Segment → Segment → List Entry
table_of file segments s =
    map (λ i. entry_of (memory_bytes file segments (s.vaddr + DYN_SIZE * i) DYN_SIZE))
    (range_with_len 0 (capacity_of s))

abbrev pub is_end : Entry → Bool
is_end e = e.tag == DT_NULL

-- The same of the DYNAMIC segment that was found, if any.
abbrev pub table_by : List ℕ → List Segment → Option Segment → List Entry
table_by file segments None = []
table_by file segments (Some s) = table_of file segments s

unfoldable pub dynamic_table : List ℕ → List Entry
dynamic_table file = table_by file (headers file) (find is_dynamic (headers file))

-- The entries before the first DT_NULL.
unfoldable pub dynamic_entries : List ℕ → List Entry
dynamic_entries file = before_first is_end (dynamic_table file)

-- How many entries the DYNAMIC segment has room for, the end included.
abbrev pub dynamic_capacity : List ℕ → ℕ
dynamic_capacity file = length (dynamic_table file)

-- The value of the first entry with this tag.
abbrev pub value_of : ℕ → List Entry → Option ℕ
value_of tag entries = option_map (λ e. e.value) (find (λ e. e.tag == tag) entries)

-- Where the strings begin in memory, and how many bytes they have.
abbrev pub strings_at : List Entry → ℕ
strings_at entries = unwrap_or (value_of DT_STRTAB entries) 0

abbrev pub strings_size : List Entry → ℕ
strings_size entries = unwrap_or (value_of DT_STRSZ entries) 0

-- The string table.
unfoldable pub strings_of : List ℕ → List Segment → List Entry → List ℕ
strings_of file segments entries =
    memory_bytes file segments (strings_at entries) (strings_size entries)

abbrev pub text_in : List ℕ → ℕ → Option (List ℕ)
text_in strings at =
    cond (nat_lt at (length strings)) (Some (before_first (λ c. c == 0) (drop at strings))) None

-- The bytes from a string place up to the next zero byte.
unfoldable pub string_at : List ℕ → ℕ → Option (List ℕ)
string_at file at = text_in (strings_of file (headers file) (dynamic_entries file)) at
