-- The names of version indexes, looked up by index
use Rattle.std.specs.Prelude.{ℕ, ◌+◌, ◌<◌, ◌≡◌, cond, not, ◌&&◌, List, Option, Some, None, is_some, nat_lt, fold, slice_index, slice_index_or, slice_set}
use Rattle.answers.specs.First.{some_where}
use Rattle.byte_view.specs.Checks.{flaw}
use Rattle.byte_view.specs.declared.constants.TheConstants.{DT_VERSYM, VER_NDX_GLOBAL, VERSYM_VERSION}
use Rattle.byte_view.specs.declared.flaws.Flaw.{Flaw}
use Rattle.byte_view.specs.declared.flaws.TheConstants.{UNKNOWN_INDEX}
use Rattle.load_model.specs.VersionTables.{dynamic_value, index_in, is_versioned, place_by, version_by, versym_word}
use Rattle.load_model.specs.declared.symbols.Ver.{Ver}
use Rattle.version_tables.specs.declared.asked.Asked.{Asked}
use Rattle.version_tables.specs.declared.definitions.Definition.{Definition}

-- how many version indexes the symbols may have, by where their table is; without it none is looked
-- up
abbrev pub index_count_by : Option ℕ → ℕ
index_count_by versym = cond (is_some versym) (VERSYM_VERSION + 1) 0

abbrev pub index_count : List ℕ → ℕ
index_count file = index_count_by (dynamic_value file DT_VERSYM)

-- a name is noted for an index that has none
unfoldable pub noted : List (Option ℕ) → ℕ × ℕ → List (Option ℕ)
noted places name =
    cond (is_some (slice_index_or places name.0 (Some 0))) places
    (slice_set places name.0 (Some name.1))

-- all names, one after another
abbrev pub all_noted : List (Option ℕ) → List (ℕ × ℕ) → List (Option ℕ)
all_noted places names = fold noted places names

abbrev pub name_in_definition : Definition → ℕ × ℕ
name_in_definition d = (d.index, d.name)

abbrev pub name_in_asked : Asked → ℕ × ℕ
name_in_asked a = (a.index, a.name)

-- what is noted for an index
unfoldable pub place_in : List (Option ℕ) → ℕ → Option ℕ
place_in places index = slice_index_or places index None

-- each index below a size has the first of its names
pub record AreFirst (size : ℕ) (places : List (Option ℕ)) (names : List (ℕ × ℕ)) : Type 0 where
  pub each : (index : ℕ) → index < size → place_in places index ≡ place_by index names

-- the word of a symbol in versym, or that of a symbol without a version
abbrev pub symbol_word : List ℕ → ℕ → ℕ
symbol_word file symbol = cond (is_versioned file) (versym_word file symbol) VER_NDX_GLOBAL

-- 32, by the word of a symbol
abbrev pub unknown_word : List (Option ℕ) → ℕ → ℕ → Option Flaw
unknown_word places symbol word =
    some_where (nat_lt VER_NDX_GLOBAL (index_in word) && not (is_some (place_in places (index_in
    word)))) (flaw UNKNOWN_INDEX symbol (index_in word))

unfoldable pub unknown_at : List (Option ℕ) → List ℕ → ℕ → Option Flaw
unknown_at places words symbol = unknown_word places symbol (slice_index words symbol)

-- the version by the word of a symbol
unfoldable pub version_in : List ℕ → List (Option ℕ) → ℕ → Ver
version_in file places word = version_by file (index_in word) (place_in places (index_in word))
