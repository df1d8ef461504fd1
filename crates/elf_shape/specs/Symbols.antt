-- The symbols of a made file (System V gABI, Symbol Table)
use Rattle.std.specs.Prelude.{ℕ, ◌+◌, ◌*◌, ◌%◌, Bool, not, ◌==◌, List, [], ◌∷◌, ◌++◌, map, length, filter, flat_map}
use Rattle.byte_view.specs.declared.constants.TheConstants.{STB_GLOBAL, SHN_UNDEF}
use Rattle.load_model.specs.Hashes.{gnu_hash}
use Rattle.elf_shape.specs.Bytes.{halves, words, longs}
use Rattle.elf_shape.specs.Texts.{string_place}
use Rattle.elf_shape.specs.Versions.{import_index, export_index}
use Rattle.elf_shape.specs.declared.shape.Shape.{Shape}
use Rattle.elf_shape.specs.declared.shape.Import.{Import}
use Rattle.elf_shape.specs.declared.shape.Export.{Export}
use Rattle.elf_shape.specs.declared.symbols.Symbol.{Symbol}
use Rattle.elf_shape.specs.declared.versions.Versions.{Versions}

-- binding in the high four bits, type in the low four
abbrev pub global_info : ℕ → ℕ
global_info kind = 16 * STB_GLOBAL + kind % 16

abbrev pub null_symbol : Symbol
null_symbol =
    record { name = 0; hash = 0; info = 0; section = SHN_UNDEF; value = 0; size = 0; version = 0 }

unfoldable pub import_symbol : List (List ℕ) → Versions → Import → Symbol
import_symbol texts versions i = record {
  name = string_place texts i.name;
  hash = gnu_hash i.name;
  info = global_info i.kind;
  section = SHN_UNDEF;
  value = i.value;
  size = 0;
  version = import_index versions i;
}

-- the export that is the symbol with this index
unfoldable pub export_symbol : List (List ℕ) → Versions → ℕ → Export → Symbol
export_symbol texts versions index e = record {
  name = string_place texts e.name;
  hash = gnu_hash e.name;
  info = global_info e.kind;
  section = 1;
  value = 16 * index;
  size = 8;
  version = export_index versions e;
}

-- the exports, of which the first has this index
abbrev pub exports_from : List (List ℕ) → Versions → ℕ → List Export → List Symbol
exports_from texts versions index [] = []
exports_from texts versions index (e ∷ more) =
    export_symbol texts versions index e ∷ exports_from texts versions (index + 1) more

abbrev pub has_no_value : Import → Bool
has_no_value i = i.value == 0

-- the imports without a value, and the others
unfoldable pub plain_imports : Shape → List Import
plain_imports shape = filter (λ i. has_no_value i) shape.imports

unfoldable pub valued_imports : Shape → List Import
valued_imports shape = filter (λ i. not (has_no_value i)) shape.imports

-- the symbols by index
unfoldable pub made_symbols : Shape → List (List ℕ) → Versions → List Symbol
made_symbols shape texts versions =
    null_symbol ∷ (map (import_symbol texts versions) (plain_imports shape)
    ++ (map (import_symbol texts versions) (valued_imports shape)
    ++ exports_from texts versions (1 + length shape.imports) shape.exports))

-- a symbol has 24 bytes: name, info, other, section, value, size
unfoldable pub symbol_bytes : Symbol → List ℕ
symbol_bytes s =
    words (s.name ∷ []) ++ ((s.info ∷ 0 ∷ []) ++ (halves (s.section ∷ []) ++ longs (s.value ∷ s.size
    ∷ [])))

unfoldable pub symbol_table : List Symbol → List ℕ
symbol_table symbols = flat_map symbol_bytes symbols

-- the version index of each symbol
unfoldable pub version_indexes : List Symbol → List ℕ
version_indexes symbols = halves (map (λ s. s.version) symbols)
