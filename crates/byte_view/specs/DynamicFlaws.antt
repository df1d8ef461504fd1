-- The flaws of the dynamic table, in the order in which they are named (System V gABI, Dynamic
-- Section; docs/ELF.md).
use Rattle.std.specs.Prelude.{ℕ, ◌+◌, ◌-◌, Bool, false, not, ◌==◌, ◌&&◌, ◌||◌, nat_lt, nat_le, List, [], ◌∷◌, ◌++◌, Option, Some, None, is_some, bit_and, drop}
use Rattle.std.specs.List.{find, list_any, position_from, before_first}
use Rattle.std.specs.Option.{option_and_then, option_map}
use Rattle.answers.specs.First.{first_some, some_where}
use Rattle.byte_view.specs.Checks.{flaw, flaw_at}
use Rattle.byte_view.specs.Headers.{headers, is_dynamic}
use Rattle.byte_view.specs.Memory.{memory_in, range_in}
use Rattle.byte_view.specs.Dynamic.{dynamic_table, is_end, strings_at, strings_size}
use Rattle.byte_view.specs.declared.constants.TheConstants.{DT_NEEDED, DT_HASH, DT_STRTAB, DT_SYMTAB, DT_STRSZ, DT_SYMENT, DT_SONAME, DT_RPATH, DT_SYMBOLIC, DT_RUNPATH, DT_FLAGS, DT_GNU_HASH, DT_VERSYM, DT_FLAGS_1, DT_VERDEF, DT_VERDEFNUM, DT_VERNEED, DT_VERNEEDNUM, DT_DEPAUDIT, DT_AUDIT, DT_AUXILIARY, DT_FILTER, DYN_SIZE, DF_1_INTERPOSE, DF_1_NODEFLIB}
use Rattle.byte_view.specs.declared.dynamic.Entry.{Entry}
use Rattle.byte_view.specs.declared.flaws.Flaw.{Flaw}
use Rattle.byte_view.specs.declared.flaws.TheConstants.{DYNAMIC_PLACE, MISSING_TAG, NO_DYNAMIC, NO_END, REPEATED, STRINGS_END, STRINGS_RANGE, STRING_PLACE, TAG_REFUSED, TWO_DYNAMIC}
use Rattle.byte_view.specs.declared.segments.Segment.{Segment}

-- TwoDynamic: the second DYNAMIC.
abbrev pub place_after : (Segment → Bool) → List Segment → ℕ → Option ℕ
place_after test segments i =
    option_map (λ j. i + 1 + j) (position_from test 0 (drop (i + 1) segments))

abbrev pub second_place : (Segment → Bool) → List Segment → Option ℕ
second_place test segments =
    option_and_then (place_after test segments) (position_from test 0 segments)

abbrev pub two_dynamic : List Segment → Option Flaw
two_dynamic segments = flaw_at TWO_DYNAMIC (second_place is_dynamic segments)

abbrev pub begins_at : ℕ → Option (ℕ × ℕ) → Bool
begins_at place None = false
begins_at place (Some range) = range.0 == place

-- DynamicPlace: there is no room for an entry, or memory does not have the table from the file at
-- the header's offset.
abbrev pub misplaced : List Segment → Segment → Option Flaw
misplaced segments s =
    some_where (nat_lt s.filesz DYN_SIZE || not (begins_at s.offset (range_in segments s.vaddr
    s.filesz)))
    (flaw DYNAMIC_PLACE 0 0)

-- NoEnd: there is no DT_NULL.
abbrev pub no_end : List Entry → Option Flaw
no_end table = some_where (not (list_any is_end table)) (flaw NO_END 0 0)

-- TagRefused: an entry would change how libraries are found or bound, in ways that are not
-- modelled.
abbrev pub has_bit : ℕ → ℕ → Bool
has_bit bit value = not (bit_and value bit == 0)

abbrev pub is_refused : Entry → Bool
is_refused e =
    (e.tag == DT_DEPAUDIT) || (e.tag == DT_AUDIT) || (e.tag == DT_AUXILIARY) || (e.tag == DT_FILTER)
    || ((e.tag == DT_FLAGS_1) && (has_bit DF_1_INTERPOSE e.value || has_bit DF_1_NODEFLIB e.value))

-- The tags that stand at most once.
abbrev pub is_single : ℕ → Bool
is_single tag =
    list_any (λ t. t == tag) (
    DT_HASH ∷ DT_STRTAB ∷ DT_SYMTAB ∷ DT_STRSZ ∷ DT_SYMENT ∷ DT_SONAME ∷ DT_RPATH ∷ DT_SYMBOLIC ∷
    DT_RUNPATH ∷ DT_FLAGS ∷ DT_GNU_HASH ∷ DT_VERSYM ∷ DT_FLAGS_1 ∷ DT_VERDEF ∷ DT_VERDEFNUM ∷
    DT_VERNEED ∷ DT_VERNEEDNUM ∷ [])

abbrev pub has_tag : ℕ → List Entry → Bool
has_tag tag entries = list_any (λ e. e.tag == tag) entries

-- Repeated: such a tag stood among the entries before.
abbrev pub is_repeated : List Entry → Entry → Bool
is_repeated before e = is_single e.tag && has_tag e.tag before

-- TagRefused and Repeated, entry by entry. TagPlaces says it without the walk.
unfoldable pub entry_flaw : List Entry → List Entry → Option Flaw
entry_flaw before [] = None
entry_flaw before (e ∷ rest) = first_some (
    some_where (is_refused e) (flaw TAG_REFUSED e.tag 0) ∷
    some_where (is_repeated before e) (flaw REPEATED e.tag 0) ∷
    entry_flaw (before ++ e ∷ []) rest ∷ [])

-- MissingTag: a tag that each table has, or that another tag asks for, is not there.
abbrev pub missing_tag : ℕ → List Entry → Option Flaw
missing_tag tag entries = some_where (not (has_tag tag entries)) (flaw MISSING_TAG tag 0)

abbrev pub missing_beside : ℕ → ℕ → List Entry → Option Flaw
missing_beside tag wanted entries =
    some_where (has_tag tag entries && not (has_tag wanted entries)) (flaw MISSING_TAG wanted 0)

unfoldable pub missing_flaw : List Entry → Option Flaw
missing_flaw entries = first_some (
    missing_tag DT_STRTAB entries ∷
    missing_tag DT_SYMTAB entries ∷
    missing_tag DT_STRSZ entries ∷
    missing_tag DT_SYMENT entries ∷
    missing_beside DT_VERDEF DT_VERDEFNUM entries ∷
    missing_beside DT_VERNEED DT_VERNEEDNUM entries ∷ [])

-- StringsRange: the string table is empty, or memory does not have it from the file.
abbrev pub no_strings : List Segment → List Entry → Option Flaw
no_strings segments entries =
    some_where
    ((strings_size entries == 0)
    || not (is_some (range_in segments (strings_at entries) (strings_size entries))))
    (flaw STRINGS_RANGE 0 0)

abbrev pub is_zero_byte : Option ℕ → Bool
is_zero_byte None = false
is_zero_byte (Some c) = c == 0

-- StringsEnd: the last byte of the string table is not zero.
abbrev pub unended_strings : List ℕ → List Segment → List Entry → Option Flaw
unended_strings file segments entries =
    some_where
    (not (is_zero_byte (memory_in file segments (strings_at entries + (strings_size entries - 1)))))
    (flaw STRINGS_END 0 0)

-- StringPlace: the first name that lies past the string table.
abbrev pub is_name : Entry → Bool
is_name e =
    (e.tag == DT_NEEDED) || (e.tag == DT_SONAME) || (e.tag == DT_RPATH) || (e.tag == DT_RUNPATH)

abbrev pub place_past_strings : List Entry → Option ℕ
place_past_strings entries =
    option_map (λ e. e.value)
    (find (λ e. is_name e && nat_le (strings_size entries) e.value) entries)

abbrev pub bad_name : List Entry → Option Flaw
bad_name entries = flaw_at STRING_PLACE (place_past_strings entries)

unfoldable pub place_flaw : List Segment → Segment → Option Flaw
place_flaw segments s = first_some (two_dynamic segments ∷ misplaced segments s ∷ [])

unfoldable pub tags_flaw : List Entry → Option Flaw
tags_flaw entries = first_some (entry_flaw [] entries ∷ missing_flaw entries ∷ [])

unfoldable pub strings_flaw : List ℕ → List Segment → List Entry → Option Flaw
strings_flaw file segments entries = first_some (
    no_strings segments entries ∷
    unended_strings file segments entries ∷
    bad_name entries ∷ [])

unfoldable pub table_flaw : List ℕ → List Segment → List Entry → Option Flaw
table_flaw file segments table = first_some (
    no_end table ∷
    tags_flaw (before_first is_end table) ∷
    strings_flaw file segments (before_first is_end table) ∷ [])

-- NoDynamic: there is no DYNAMIC.
abbrev pub segment_flaw_by : List Segment → Option Segment → Option Flaw
segment_flaw_by segments None = Some (flaw NO_DYNAMIC 0 0)
segment_flaw_by segments (Some s) = place_flaw segments s

-- The first flaw of the dynamic table of a file whose headers have none.
unfoldable pub dynamic_flaw : List ℕ → Option Flaw
dynamic_flaw file = first_some (
    segment_flaw_by (headers file) (find is_dynamic (headers file)) ∷
    table_flaw file (headers file) (dynamic_table file) ∷ [])
