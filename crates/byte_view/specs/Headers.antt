-- The ELF header and the program headers, in the standard's terms (System V gABI, ELF Header and
-- Program Header).
use Rattle.std.specs.Prelude.{ℕ, ◌+◌, ◌*◌, Bool, ◌==◌, List, map, slice_index}
use Rattle.std.specs.List.{range_with_len}
use Rattle.byte_view.specs.Numbers.{number_at}
use Rattle.byte_view.specs.declared.constants.TheConstants.{EI_CLASS, EI_DATA, EI_VERSION, E_EHSIZE_AT, E_ENTRY_AT, E_FLAGS_AT, E_MACHINE_AT, E_PHENTSIZE_AT, E_PHNUM_AT, E_PHOFF_AT, E_SHENTSIZE_AT, E_SHNUM_AT, E_SHOFF_AT, E_SHSTRNDX_AT, E_TYPE_AT, E_VERSION_AT, PHDR_SIZE, PT_DYNAMIC, PT_INTERP, PT_LOAD, P_ALIGN_AT, P_FILESZ_AT, P_FLAGS_AT, P_MEMSZ_AT, P_OFFSET_AT, P_PADDR_AT, P_VADDR_AT}
use Rattle.byte_view.specs.declared.segments.Segment.{Segment}

-- The fields of the ELF header; e_ident is its first part.
abbrev pub ei_class : List ℕ → ℕ
ei_class file = slice_index file EI_CLASS

abbrev pub ei_data : List ℕ → ℕ
ei_data file = slice_index file EI_DATA

abbrev pub ei_version : List ℕ → ℕ
ei_version file = slice_index file EI_VERSION

abbrev pub e_type : List ℕ → ℕ
e_type file = number_at 2 file E_TYPE_AT

abbrev pub e_machine : List ℕ → ℕ
e_machine file = number_at 2 file E_MACHINE_AT

abbrev pub e_version : List ℕ → ℕ
e_version file = number_at 4 file E_VERSION_AT

abbrev pub e_entry : List ℕ → ℕ
e_entry file = number_at 8 file E_ENTRY_AT

abbrev pub e_phoff : List ℕ → ℕ
e_phoff file = number_at 8 file E_PHOFF_AT

abbrev pub e_shoff : List ℕ → ℕ
e_shoff file = number_at 8 file E_SHOFF_AT

abbrev pub e_flags : List ℕ → ℕ
e_flags file = number_at 4 file E_FLAGS_AT

abbrev pub e_ehsize : List ℕ → ℕ
e_ehsize file = number_at 2 file E_EHSIZE_AT

abbrev pub e_phentsize : List ℕ → ℕ
e_phentsize file = number_at 2 file E_PHENTSIZE_AT

abbrev pub e_phnum : List ℕ → ℕ
e_phnum file = number_at 2 file E_PHNUM_AT

abbrev pub e_shentsize : List ℕ → ℕ
e_shentsize file = number_at 2 file E_SHENTSIZE_AT

abbrev pub e_shnum : List ℕ → ℕ
e_shnum file = number_at 2 file E_SHNUM_AT

abbrev pub e_shstrndx : List ℕ → ℕ
e_shstrndx file = number_at 2 file E_SHSTRNDX_AT

-- The program header at a place.
unfoldable pub header_at : List ℕ → ℕ → Segment
header_at file at = record {
  kind = number_at 4 file at;
  flags = number_at 4 file (at + P_FLAGS_AT);
  offset = number_at 8 file (at + P_OFFSET_AT);
  vaddr = number_at 8 file (at + P_VADDR_AT);
  paddr = number_at 8 file (at + P_PADDR_AT);
  filesz = number_at 8 file (at + P_FILESZ_AT);
  memsz = number_at 8 file (at + P_MEMSZ_AT);
  align = number_at 8 file (at + P_ALIGN_AT);
}

-- The program headers of a file.
unfoldable pub headers : List ℕ → List Segment
headers file =
    map (λ i. header_at file (e_phoff file + PHDR_SIZE * i)) (range_with_len 0 (e_phnum file))

-- What a program header describes.
abbrev pub is_load : Segment → Bool
is_load s = s.kind == PT_LOAD

abbrev pub is_dynamic : Segment → Bool
is_dynamic s = s.kind == PT_DYNAMIC

abbrev pub is_interp : Segment → Bool
is_interp s = s.kind == PT_INTERP

-- Where a segment ends in the file, and in memory.
abbrev pub file_end : Segment → ℕ
file_end s = s.offset + s.filesz

abbrev pub memory_end : Segment → ℕ
memory_end s = s.vaddr + s.memsz
