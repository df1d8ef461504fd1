-- The parts of a made file between its headers and its dynamic table, and where they stand
use Rattle.std.specs.Prelude.{ℕ, ◌+◌, ◌*◌, Bool, cond, List, [], ◌++◌, Option, Some, None, length, is_some}
use Rattle.byte_view.specs.declared.constants.TheConstants.{EHDR_SIZE, PHDR_SIZE}
use Rattle.elf_shape.specs.Bytes.{padded}
use Rattle.elf_shape.specs.Texts.{string_table, ended}
use Rattle.elf_shape.specs.Symbols.{symbol_table, version_indexes, plain_imports}
use Rattle.elf_make.specs.HashTables.{made_sysv_table, made_gnu_table}
use Rattle.elf_shape.specs.Versions.{has_version_indexes}
use Rattle.elf_make.specs.VersionTables.{verdef_of, verneed_of}
use Rattle.elf_shape.specs.declared.shape.Shape.{Shape}
use Rattle.elf_shape.specs.declared.symbols.Symbol.{Symbol}
use Rattle.elf_shape.specs.declared.versions.Versions.{Versions}
use Rattle.elf_make.specs.declared.parts.Parts.{Parts}
use Rattle.elf_make.specs.declared.parts.Places.{Places}

-- a part that is there where it is wanted
abbrev pub wanted : Bool → List ℕ → List ℕ
wanted b part = cond b part []

abbrev pub made_interp : Option (List ℕ) → List ℕ
made_interp None = []
made_interp (Some path) = ended path

unfoldable pub made_parts : Shape → Versions → List (List ℕ) → List Symbol → Parts
made_parts shape versions texts symbols = record {
  interp = made_interp shape.interp;
  strings = string_table texts;
  symbols = symbol_table symbols;
  sysv = wanted shape.sysv (made_sysv_table (length symbols));
  gnu = wanted shape.gnu (made_gnu_table (1 + length (plain_imports shape)) symbols);
  versym = wanted (has_version_indexes versions) (version_indexes symbols);
  verdef = verdef_of texts shape.soname versions.definitions;
  verneed = verneed_of texts versions;
}

-- how many program headers there are, and where what follows them begins: both tables have places
-- that 8 divides
abbrev pub segment_count : Shape → ℕ
segment_count shape = cond (is_some shape.interp) 4 2

abbrev pub parts_begin : Shape → ℕ
parts_begin shape = EHDR_SIZE + PHDR_SIZE * segment_count shape

-- where a part ends, filled up, that begins here
abbrev pub after : ℕ → List ℕ → ℕ
after place part = place + length (padded part)

-- where each part begins, one behind the other
unfoldable pub places_of : ℕ → Parts → Places
places_of begin parts =
    let strings : ℕ = after begin parts.interp in
    let symbols : ℕ = after strings parts.strings in
    let sysv : ℕ = after symbols parts.symbols in
    let gnu : ℕ = after sysv parts.sysv in
    let versym : ℕ = after gnu parts.gnu in
    let verdef : ℕ = after versym parts.versym in
    let verneed : ℕ = after verdef parts.verdef in
    let dynamic : ℕ = after verneed parts.verneed in
    record {
      interp = begin;
      strings = strings;
      symbols = symbols;
      sysv = sysv;
      gnu = gnu;
      versym = versym;
      verdef = verdef;
      verneed = verneed;
      dynamic = dynamic;
    }

-- the parts, each filled up
unfoldable pub symbol_parts : Parts → List ℕ
symbol_parts parts =
    padded parts.interp ++ (padded parts.strings ++ (padded parts.symbols ++ (padded parts.sysv ++
    padded parts.gnu)))

unfoldable pub version_parts : Parts → List ℕ
version_parts parts = padded parts.versym ++ (padded parts.verdef ++ padded parts.verneed)

unfoldable pub part_bytes : Parts → List ℕ
part_bytes parts = symbol_parts parts ++ version_parts parts
