-- The string table of a made file (System V gABI, String Table)
use Rattle.std.specs.Prelude.{ℕ, ◌+◌, List, [], ◌∷◌, ◌++◌, Option, Some, None, map, length, fold, flat_map, bytes_eq, option_to_list, position, slice_index}
use Rattle.elf_shape.specs.Versions.{files_of}
use Rattle.elf_shape.specs.Distinct.{with_text}
use Rattle.elf_shape.specs.declared.shape.Shape.{Shape}
use Rattle.elf_shape.specs.declared.versions.Versions.{Versions}

-- all texts that a made file names, in order
unfoldable pub mentioned : Shape → Versions → List (List ℕ)
mentioned shape versions =
    option_to_list shape.soname
    ++ (shape.needs ++ (option_to_list shape.rpath ++ (option_to_list shape.runpath
    ++ (map (λ i. i.name) shape.imports ++ (map (λ e. e.name) shape.exports
    ++ (files_of versions.needed
    ++ (versions.definitions ++ map (λ a. a.name) versions.needed)))))))

-- the texts and one more, unless it is there or empty
abbrev pub with_string : List (List ℕ) → List ℕ → List (List ℕ)
with_string texts [] = texts
with_string texts (c ∷ text) = with_text texts (c ∷ text)

-- the texts of the string table, each once; the empty text needs no bytes of its own
unfoldable pub shape_texts : Shape → Versions → List (List ℕ)
shape_texts shape versions = fold with_string [] (mentioned shape versions)

-- the texts and those of the file's own, of its symbols, and of its versions
abbrev pub with_own_texts : List (List ℕ) → Shape → List (List ℕ)
with_own_texts texts shape =
    fold with_string (fold with_string (fold with_string (fold with_string texts (option_to_list
    shape.soname)) shape.needs) (option_to_list shape.rpath)) (option_to_list shape.runpath)

abbrev pub with_symbol_names : List (List ℕ) → Shape → List (List ℕ)
with_symbol_names texts shape =
    fold with_string (fold with_string texts (map (λ i. i.name) shape.imports)) (map (λ e. e.name)
    shape.exports)

abbrev pub with_version_texts : List (List ℕ) → Versions → List (List ℕ)
with_version_texts texts versions =
    fold with_string (fold with_string (fold with_string texts (files_of versions.needed))
    versions.definitions) (map (λ a. a.name) versions.needed)

-- a text as the table has it, with a zero behind it
abbrev pub ended : List ℕ → List ℕ
ended text = text ++ 0 ∷ []

-- the string table: a zero, then the texts
unfoldable pub string_table : List (List ℕ) → List ℕ
string_table texts = 0 ∷ flat_map ended texts

-- where each of the texts stands, when the first of them stands at `at`
abbrev pub places_from : ℕ → List (List ℕ) → List ℕ
places_from at [] = []
places_from at (t ∷ more) = at ∷ places_from (at + length t + 1) more

abbrev pub place_at : List ℕ → Option ℕ → ℕ
place_at places None = 0
place_at places (Some i) = slice_index places i

-- where a text stands in the string table; the empty one, which is not among the texts, at the zero
-- that begins it
unfoldable pub string_place : List (List ℕ) → List ℕ → ℕ
string_place texts text = place_at (places_from 1 texts) (position (λ t. bytes_eq text t) texts)
