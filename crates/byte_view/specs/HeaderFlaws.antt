-- The flaws of the ELF header and the program headers, in the order in which they are named
-- (System V gABI, ELF Header and Program Header; docs/ELF.md).
use Rattle.std.specs.Prelude.{ℕ, suc, ◌+◌, ◌-◌, ◌*◌, ◌%◌, ◌^◌, Bool, cond, not, ◌==◌, ◌&&◌, ◌||◌, nat_lt, nat_le, eqb, min, List, [], ◌∷◌, Option, Some, None, length}
use Rattle.std.specs.Int.{is_power_of_two}
use Rattle.std.specs.List.{list_any, position_from, starts_with}
use Rattle.answers.specs.First.{first_some, some_where}
use Rattle.byte_view.specs.Checks.{flaw, flaw_at}
use Rattle.byte_view.specs.Headers.{ei_class, ei_data, ei_version, e_type, e_machine, e_version, e_phoff, e_ehsize, e_phentsize, e_phnum, headers, is_load, is_dynamic, is_interp, file_end, memory_end}
use Rattle.byte_view.specs.declared.constants.TheConstants.{ELFCLASS64, ELFDATA2LSB, ELFMAG, EV_CURRENT, E_EHSIZE_AT, E_PHENTSIZE_AT, E_PHNUM_AT, EHDR_SIZE, PHDR_SIZE, ET_EXEC, ET_DYN, EM_X86_64, PN_XNUM, LONGEST_FILE, HIGHEST_END, LEAST_ALIGN}
use Rattle.byte_view.specs.declared.flaws.Flaw.{Flaw}
use Rattle.byte_view.specs.declared.flaws.TheConstants.{CLASS, HEADER_SIZE, IDENT_VERSION, KIND, MACHINE, NOT_ELF, NO_LOAD, ORDER, SEGMENT_ORDER, SEGMENT_OVERLAP, SEGMENT_RANGE, SHORT, TOO_BIG}
use Rattle.byte_view.specs.declared.segments.Segment.{Segment}

-- TooBig: the file is longer than any that is read.
abbrev pub too_big : List ℕ → Option Flaw
too_big file = some_where (nat_lt LONGEST_FILE (length file)) (flaw TOO_BIG (length file) 0)

-- NotElf: the file does not begin as an ELF file does.
abbrev pub not_elf : List ℕ → Option Flaw
not_elf file = some_where (not (starts_with eqb file ELFMAG)) (flaw NOT_ELF 0 0)

-- Short: the file ends within the ELF header.
abbrev pub short_header : List ℕ → Option Flaw
short_header file = some_where (nat_lt (length file) EHDR_SIZE) (flaw SHORT EHDR_SIZE (length file))

-- Class: the file is not one of 64-bit words.
abbrev pub wrong_class : List ℕ → Option Flaw
wrong_class file = some_where (not (ei_class file == ELFCLASS64)) (flaw CLASS (ei_class file) 0)

-- Order: the lowest byte of a number is not the first.
abbrev pub wrong_order : List ℕ → Option Flaw
wrong_order file = some_where (not (ei_data file == ELFDATA2LSB)) (flaw ORDER (ei_data file) 0)

-- IdentVersion: e_ident or e_version has another version.
abbrev pub wrong_ident_version : List ℕ → Option Flaw
wrong_ident_version file =
    some_where (not (ei_version file == EV_CURRENT)) (flaw IDENT_VERSION (ei_version file) 0)

abbrev pub wrong_version : List ℕ → Option Flaw
wrong_version file =
    some_where (not (e_version file == EV_CURRENT)) (flaw IDENT_VERSION (e_version file) 0)

-- Machine: the file is not for x86-64.
abbrev pub wrong_machine : List ℕ → Option Flaw
wrong_machine file =
    some_where (not (e_machine file == EM_X86_64)) (flaw MACHINE (e_machine file) 0)

-- Kind: the file is neither a program nor a shared object.
abbrev pub wrong_kind : List ℕ → Option Flaw
wrong_kind file =
    some_where (not ((e_type file == ET_EXEC) || (e_type file == ET_DYN)))
    (flaw KIND (e_type file) 0)

-- HeaderSize: a header has another size, or there is no number of program headers. The flaw tells
-- the place of the field.
abbrev pub wrong_header_size : List ℕ → Option Flaw
wrong_header_size file =
    some_where (not (e_ehsize file == EHDR_SIZE)) (flaw HEADER_SIZE E_EHSIZE_AT 0)

abbrev pub wrong_entry_size : List ℕ → Option Flaw
wrong_entry_size file =
    some_where (not (e_phentsize file == PHDR_SIZE)) (flaw HEADER_SIZE E_PHENTSIZE_AT 0)

abbrev pub wrong_number : List ℕ → Option Flaw
wrong_number file =
    some_where ((e_phnum file == 0) || (e_phnum file == PN_XNUM)) (flaw HEADER_SIZE E_PHNUM_AT 0)

-- Where the program headers end in the file.
abbrev pub headers_end : List ℕ → ℕ
headers_end file = e_phoff file + PHDR_SIZE * e_phnum file

-- Short: the file ends within the program headers. An end past all numbers of 64 bits is told as
-- the greatest.
abbrev pub short_headers : List ℕ → Option Flaw
short_headers file =
    some_where (nat_lt (length file) (headers_end file))
    (flaw SHORT (min (headers_end file) (2 ^ 64 - 1)) (length file))

-- The bytes of a LOAD, DYNAMIC or INTERP go past the end of the file.
abbrev pub is_cut : ℕ → Segment → Bool
is_cut len s = (is_load s || is_dynamic s || is_interp s) && nat_lt len (file_end s)

-- An alignment is a power of two that is not less than the least.
abbrev pub is_alignment : ℕ → Bool
is_alignment n = nat_le LEAST_ALIGN n && is_power_of_two n

-- No loader maps the LOAD: it has more bytes in the file than in memory, ends too high in memory,
-- has another alignment, or its address and its place differ modulo the alignment.
abbrev pub is_unmappable : Segment → Bool
is_unmappable s =
    nat_lt s.memsz s.filesz
    || (nat_lt HIGHEST_END (memory_end s)
    || not (is_alignment s.align && (s.vaddr % s.align == s.offset % s.align)))

-- SegmentRange: the first header for which one of the two holds.
abbrev pub has_bad_range : ℕ → Segment → Bool
has_bad_range len s = is_cut len s || (is_load s && is_unmappable s)

abbrev pub bad_range : ℕ → List Segment → Option Flaw
bad_range len segments = flaw_at SEGMENT_RANGE (position_from (has_bad_range len) 0 segments)

-- NoLoad: nothing is loaded.
abbrev pub no_load : List Segment → Option Flaw
no_load segments = some_where (not (list_any is_load segments)) (flaw NO_LOAD 0 0)

-- The number of the first LOAD whose address is below the bound that the LOAD before it sets,
-- counted from i; low is the last bound. LoadPairs says it without the walk.
unfoldable pub first_below : (Segment → ℕ) → ℕ → ℕ → List Segment → Option ℕ
first_below bound i low [] = None
first_below bound i low (s ∷ rest) =
    cond (is_load s)
    (cond (nat_lt s.vaddr low) (Some i) (first_below bound (suc i) (bound s) rest))
    (first_below bound (suc i) low rest)

-- SegmentOrder: a LOAD begins below the beginning of the LOAD before it.
abbrev pub falling : List Segment → Option Flaw
falling segments = flaw_at SEGMENT_ORDER (first_below (λ s. s.vaddr) 0 0 segments)

-- SegmentOverlap: a LOAD begins below the end of the LOAD before it.
abbrev pub overlapping : List Segment → Option Flaw
overlapping segments = flaw_at SEGMENT_OVERLAP (first_below memory_end 0 0 segments)

unfoldable pub ident_flaw : List ℕ → Option Flaw
ident_flaw file = first_some (
    too_big file ∷
    not_elf file ∷
    short_header file ∷
    wrong_class file ∷
    wrong_order file ∷
    wrong_ident_version file ∷
    wrong_version file ∷ [])

unfoldable pub word_flaw : List ℕ → Option Flaw
word_flaw file = first_some (
    wrong_machine file ∷
    wrong_kind file ∷
    wrong_header_size file ∷
    wrong_entry_size file ∷
    wrong_number file ∷
    short_headers file ∷ [])

unfoldable pub segment_flaw : ℕ → List Segment → Option Flaw
segment_flaw len segments = first_some (
    bad_range len segments ∷
    no_load segments ∷
    falling segments ∷
    overlapping segments ∷ [])

-- The first flaw of the headers.
unfoldable pub header_flaw : List ℕ → Option Flaw
header_flaw file = first_some (
    ident_flaw file ∷
    word_flaw file ∷
    segment_flaw (length file) (headers file) ∷ [])
