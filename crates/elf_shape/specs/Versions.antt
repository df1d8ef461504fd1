-- Symbol versions (Linux Standard Base, Symbol Versioning)
use Rattle.std.specs.Prelude.{ℕ, ◌+◌, ◌≤◌, Bool, true, false, cond, not, ◌&&◌, List, [], ◌∷◌, ◌++◌, Option, Some, None, map, length, fold, filter, filter_map, flat_map, bytes_eq, unwrap_or}
use Rattle.std.specs.List.{list_any, position_from}
use Rattle.byte_view.specs.declared.constants.TheConstants.{VER_NDX_GLOBAL, VERSYM_HIDDEN}
use Rattle.load_model.specs.declared.asks.Ask.{Ask}
use Rattle.elf_shape.specs.Distinct.{each_once}
use Rattle.elf_shape.specs.declared.shape.Shape.{Shape}
use Rattle.elf_shape.specs.declared.shape.Import.{Import}
use Rattle.elf_shape.specs.declared.shape.Export.{Export}
use Rattle.elf_shape.specs.declared.versions.Versions.{Versions}

-- what an import asks, where it names both a file and a version
abbrev pub ask_with : Option (List ℕ) → Option (List ℕ) → Option Ask
ask_with None version = None
ask_with (Some file) None = None
ask_with (Some file) (Some name) = Some (record { file = file; name = name; weak = false })

abbrev pub ask_of_import : Import → Option Ask
ask_of_import i = ask_with i.file i.version

-- all uses of versions of other files: by the imports, then the asks
unfoldable pub uses_of : Shape → List Ask
uses_of shape = filter_map ask_of_import shape.imports ++ shape.asks

abbrev pub is_of : List ℕ → Ask → Bool
is_of file a = bytes_eq a.file file

abbrev pub is_version : List ℕ → List ℕ → Ask → Bool
is_version file name a = bytes_eq a.file file && bytes_eq a.name name

-- the asks and one more, unless its version of its file is there
abbrev pub with_ask : List Ask → Ask → List Ask
with_ask asks a = cond (list_any (is_version a.file a.name) asks) asks (asks ++ a ∷ [])

-- each version of a file once, as its first use asks it
unfoldable pub first_uses : List Ask → List Ask
first_uses uses = fold with_ask [] uses

-- the files, in the order of their first uses
unfoldable pub files_of : List Ask → List (List ℕ)
files_of asks = each_once (map (λ a. a.file) asks)

-- the asks of a file
unfoldable pub asks_of_file : List ℕ → List Ask → List Ask
asks_of_file file asks = filter (is_of file) asks

-- the asks, file by file
unfoldable pub file_by_file : List Ask → List Ask
file_by_file asks = flat_map (λ file. asks_of_file file asks) (files_of asks)

-- the versions that a file defines, and those that it needs, each once
unfoldable pub made_versions : Shape → Versions
made_versions shape = record {
  definitions = each_once (filter_map (λ e. e.version) shape.exports);
  needed = file_by_file (first_uses (uses_of shape));
}

abbrev pub is_none_of : {X : Type 0} → List X → Bool
is_none_of [] = true
is_none_of (x ∷ more) = false

-- whether the file has version indexes
abbrev pub has_version_indexes : Versions → Bool
has_version_indexes versions = not (is_none_of versions.definitions && is_none_of versions.needed)

-- where the first that passes stands, from 0
abbrev pub place_of : {X : Type 0} → (X → Bool) → List X → ℕ
place_of test xs = unwrap_or (position_from test 0 xs) 0

-- index 1 is the file itself: the definitions have the indexes from 2 on, and what is needed those
-- that follow
abbrev pub index_of_definition : List (List ℕ) → List ℕ → ℕ
index_of_definition definitions name = 2 + place_of (λ d. bytes_eq d name) definitions

abbrev pub first_needed_index : Versions → ℕ
first_needed_index versions = 2 + length versions.definitions

-- an index has fifteen bits of its word, below the bit that says hidden
abbrev pub HasFewVersions : Versions → Type 0
HasFewVersions versions = first_needed_index versions + length versions.needed ≤ VERSYM_HIDDEN

abbrev pub index_of_needed : Versions → Option Ask → ℕ
index_of_needed versions None = VER_NDX_GLOBAL
index_of_needed versions (Some a) =
    first_needed_index versions + place_of (is_version a.file a.name) versions.needed

-- the word of an import, and that of an export, among the version indexes
unfoldable pub import_index : Versions → Import → ℕ
import_index versions i = index_of_needed versions (ask_of_import i)

abbrev pub index_by : Versions → Option (List ℕ) → ℕ
index_by versions None = VER_NDX_GLOBAL
index_by versions (Some name) = index_of_definition versions.definitions name

unfoldable pub export_index : Versions → Export → ℕ
export_index versions e = index_by versions e.version + cond e.hidden VERSYM_HIDDEN 0
