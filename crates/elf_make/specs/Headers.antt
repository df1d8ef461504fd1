-- The headers of a made file (System V gABI, ELF Header, Program Header and Sections)
use Rattle.std.specs.Prelude.{ℕ, ◌+◌, ◌*◌, cond, ◌==◌, List, [], ◌∷◌, ◌++◌, length, flat_map, is_some}
use Rattle.byte_view.specs.declared.constants.TheConstants.{EHDR_SIZE, PHDR_SIZE, SHDR_SIZE, ET_DYN, EV_CURRENT, PT_LOAD, PT_DYNAMIC, PT_INTERP, PT_PHDR, PF_R, PF_W, SHT_DYNSYM, SYM_SIZE}
use Rattle.byte_view.specs.declared.segments.Segment.{Segment}
use Rattle.elf_shape.specs.Bytes.{halves, words, longs}
use Rattle.elf_make.specs.Parts.{wanted, segment_count}
use Rattle.elf_shape.specs.declared.shape.Shape.{Shape}
use Rattle.elf_make.specs.declared.parts.Parts.{Parts}
use Rattle.elf_make.specs.declared.parts.Places.{Places}

-- a shared object of 64-bit words, the lowest byte first, version 1
abbrev pub ident : List ℕ
ident = 0x7f ∷ 0x45 ∷ 0x4c ∷ 0x46 ∷ 2 ∷ 1 ∷ 1 ∷ 0 ∷ 0 ∷ 0 ∷ 0 ∷ 0 ∷ 0 ∷ 0 ∷ 0 ∷ 0 ∷ []

-- e_ident; e_type, e_machine; e_version
unfoldable pub kind_words : ℕ → List ℕ
kind_words machine = ident ++ (halves (ET_DYN ∷ machine ∷ []) ++ words (EV_CURRENT ∷ []))

-- e_entry, e_phoff, e_shoff; e_flags; e_ehsize, e_phentsize, e_phnum, e_shentsize, e_shnum,
-- e_shstrndx
unfoldable pub table_words : ℕ → ℕ → ℕ → ℕ → List ℕ
table_words segments place size sections =
    longs (0 ∷ EHDR_SIZE ∷ place ∷ []) ++ (words (0 ∷ [])
    ++ halves (EHDR_SIZE ∷ PHDR_SIZE ∷ segments ∷ size ∷ sections ∷ 0 ∷ []))

-- the header of a file whose section headers stand at a place, where it has any
unfoldable pub file_header : Shape → ℕ → List ℕ
file_header shape place =
    kind_words shape.machine
    ++ cond shape.sections (table_words (segment_count shape) place SHDR_SIZE 2)
    (table_words (segment_count shape) 0 0 0)

-- a segment that is a part of the file, with `more` bytes in memory behind it
abbrev pub segment : ℕ → ℕ → ℕ → ℕ → ℕ → ℕ → Segment
segment kind flags place size more align = record {
  kind = kind;
  flags = flags;
  offset = place;
  vaddr = place;
  paddr = place;
  filesz = size;
  memsz = size + more;
  align = align;
}

-- the header table and the interpreter, where there is one
abbrev pub interp_segments : Shape → Parts → Places → List Segment
interp_segments shape parts places = cond (is_some shape.interp)
    (segment PT_PHDR PF_R EHDR_SIZE (PHDR_SIZE * 4) 0 8
    ∷ segment PT_INTERP PF_R places.interp (length parts.interp) 0 1 ∷ []) []

abbrev pub page_of : ℕ → ℕ
page_of machine = cond (machine == 183) 65536 4096

-- what is loaded, up to the end of the dynamic table; the dynamic table
unfoldable pub segments_of : Shape → Parts → Places → ℕ → List Segment
segments_of shape parts places dynamic_size =
    interp_segments shape parts places
    ++ (segment PT_LOAD (PF_R + PF_W) 0 (places.dynamic + dynamic_size) shape.zero
    (page_of shape.machine)
    ∷ segment PT_DYNAMIC (PF_R + PF_W) places.dynamic dynamic_size 0 8 ∷ [])

-- a program header has 56 bytes
unfoldable pub segment_bytes : List Segment → List ℕ
segment_bytes segments = flat_map (λ s. words (s.kind ∷ s.flags ∷ [])
    ++ longs (s.offset ∷ s.vaddr ∷ s.paddr ∷ s.filesz ∷ s.memsz ∷ s.align ∷ [])) segments

-- the null section and that of the symbols, each of 64 bytes:
-- name, type; flags, addr, offset, size; link, info; addralign, entsize
unfoldable pub section_headers : ℕ → ℕ → List ℕ
section_headers place size =
    longs (0 ∷ 0 ∷ 0 ∷ 0 ∷ 0 ∷ 0 ∷ 0 ∷ 0 ∷ [])
    ++ (words (0 ∷ SHT_DYNSYM ∷ []) ++ (longs (0 ∷ place ∷ place ∷ size ∷ [])
    ++ (words (0 ∷ 1 ∷ []) ++ longs (0 ∷ SYM_SIZE ∷ []))))

unfoldable pub sections_of : Shape → Parts → Places → List ℕ
sections_of shape parts places =
    wanted shape.sections (section_headers places.symbols (length parts.symbols))
