-- The version definitions and the needed versions of a made file (Linux Standard Base, Symbol
-- Versioning)
use Rattle.std.specs.Prelude.{ℕ, ◌+◌, ◌*◌, cond, ◌==◌, Bool, List, [], ◌∷◌, ◌++◌, Option, length, unwrap_or}
use Rattle.byte_view.specs.declared.constants.TheConstants.{VER_CURRENT, VER_FLG_BASE, VER_FLG_WEAK}
use Rattle.load_model.specs.declared.asks.Ask.{Ask}
use Rattle.elf_shape.specs.Bytes.{halves, words}
use Rattle.elf_shape.specs.Texts.{string_place}
use Rattle.elf_shape.specs.Versions.{is_none_of, asks_of_file, files_of, first_needed_index}
use Rattle.elf_shape.specs.declared.versions.Versions.{Versions}

-- how far the next record is, where there is one
abbrev pub next_after : {X : Type 0} → ℕ → List X → ℕ
next_after distance [] = 0
next_after distance (x ∷ more) = distance

-- a Verdef (version, flags, ndx, cnt; hash, aux, next) and its one Verdaux (name, next)
unfoldable pub definition_record : ℕ → ℕ → ℕ → List ℕ
definition_record index name next =
    halves (VER_CURRENT ∷ cond (index == 1) VER_FLG_BASE 0 ∷ index ∷ 1 ∷ [])
    ++ words (0 ∷ 20 ∷ next ∷ name ∷ 0 ∷ [])

-- the definitions with these names, of which the first has this index
abbrev pub definitions_from : List (List ℕ) → ℕ → List (List ℕ) → List ℕ
definitions_from texts index [] = []
definitions_from texts index (name ∷ more) =
    definition_record index (string_place texts name) (next_after 28 more)
    ++ definitions_from texts (index + 1) more

-- the definitions, where there are any: first that of the file itself
unfoldable pub verdef_of : List (List ℕ) → Option (List ℕ) → List (List ℕ) → List ℕ
verdef_of texts soname definitions =
    cond (is_none_of definitions) [] (definitions_from texts 1 (unwrap_or soname [] ∷ definitions))

-- a Vernaux: hash, flags, other, name, next
unfoldable pub ask_record : Bool → ℕ → ℕ → ℕ → List ℕ
ask_record weak index name next =
    words (0 ∷ []) ++ (halves (cond weak VER_FLG_WEAK 0 ∷ index ∷ []) ++ words (name ∷ next ∷ []))

-- the asks of one file, of which the first has this index
abbrev pub asks_from : List (List ℕ) → ℕ → List Ask → List ℕ
asks_from texts index [] = []
asks_from texts index (a ∷ more) =
    ask_record a.weak index (string_place texts a.name) (next_after 16 more)
    ++ asks_from texts (index + 1) more

-- a Verneed: version, cnt, file, aux, next
unfoldable pub need_record : ℕ → ℕ → ℕ → List ℕ
need_record count file next = halves (VER_CURRENT ∷ count ∷ []) ++ words (file ∷ 16 ∷ next ∷ [])

-- the record of a file with these asks, and the asks
unfoldable pub need_records : List (List ℕ) → ℕ → List ℕ → List Ask → ℕ → List ℕ
need_records texts index file asks next =
    need_record (length asks) (string_place texts file) next ++ asks_from texts index asks

-- the records of these files
abbrev pub need_records_from : List (List ℕ) → List Ask → ℕ → List (List ℕ) → List ℕ
need_records_from texts needed index [] = []
need_records_from texts needed index (file ∷ more) =
    need_records texts index file (asks_of_file file needed)
    (next_after (16 + 16 * length (asks_of_file file needed)) more)
    ++ need_records_from texts needed (index + length (asks_of_file file needed)) more

-- the needed versions, file by file
unfoldable pub verneed_of : List (List ℕ) → Versions → List ℕ
verneed_of texts versions =
    need_records_from texts versions.needed (first_needed_index versions) (files_of versions.needed)
