-- Words and headers as bytes.
use Rattle.std.specs.Prelude.{ℕ, ◌<◌, ◌^◌, List, [], ◌∷◌, ◌++◌}
use Rattle.std.specs.List.{flat_map}
use Rattle.byte_view.specs.Numbers.{word_bytes}
use Rattle.byte_view.specs.declared.segments.Segment.{Segment}
use Rattle.elf_rewrite.specs.declared.patch.Patch.{Patch}

-- a word of n bytes written at a place
abbrev pub word : ℕ → ℕ → ℕ → Patch
word n at x = record { at = at; bytes = word_bytes n x }

abbrev pub header_words : ℕ → ℕ → List Patch
header_words phoff phnum = word 8 32 phoff ∷ (word 2 56 phnum ∷ [])

-- a program header as bytes
unfoldable pub header_bytes : Segment → List ℕ
header_bytes s =
    word_bytes 4 s.kind ++ (word_bytes 4 s.flags ++ (word_bytes 8 s.offset ++ (word_bytes 8 s.vaddr
    ++ (word_bytes 8 s.paddr ++ (word_bytes 8 s.filesz ++ (word_bytes 8 s.memsz
    ++ word_bytes 8 s.align))))))

-- the fields of a header fit their words
pub record IsWide (s : Segment) : Type 0 where
  pub kind : s.kind < 256 ^ 4
  pub flags : s.flags < 256 ^ 4
  pub offset : s.offset < 256 ^ 8
  pub vaddr : s.vaddr < 256 ^ 8
  pub paddr : s.paddr < 256 ^ 8
  pub filesz : s.filesz < 256 ^ 8
  pub memsz : s.memsz < 256 ^ 8
  pub align : s.align < 256 ^ 8

abbrev pub table_bytes : List Segment → List ℕ
table_bytes segments = flat_map (λ s. header_bytes s) segments
