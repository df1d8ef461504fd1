-- The versions that were read, and the file that they were read from
use Rattle.std.specs.Prelude.{ℕ, Bool, None, ◌≡◌, List, Option, map}
use Rattle.std.specs.List.{range_with_len}
use Rattle.byte_view.specs.DynamicFlaws.{has_bit}
use Rattle.byte_view.specs.declared.constants.TheConstants.{VERSYM_HIDDEN}
use Rattle.load_model.specs.VersionFlaws.{version_flaw}
use Rattle.load_model.specs.VersionTables.{ask_needs_of, asks_of, aux_places_of, def_places_of, definitions_of, file_words_of, hidden_of, text_of, verdef_count, verneed_count, versions_of}
use Rattle.load_model.specs.declared.asks.Ask.{Ask}
use Rattle.load_model.specs.declared.symbols.Ver.{Ver}
use Rattle.version_tables.specs.Indexes.{symbol_word, version_in}
use Rattle.version_tables.specs.Walks.{asked_of_need, definition_of, file_word_of, from_on, lists_from}
use Rattle.version_tables.specs.declared.asked.Asked.{Asked}
use Rattle.version_tables.specs.declared.definitions.Definition.{Definition}

-- the version of each symbol and whether it is hidden, definitions, asks, and their places in the
-- file
pub record VersionLists : Type 0 where
  pub versions : List Ver
  pub hidden : List Bool
  pub defs : List (List ℕ)
  pub asks : List Ask
  pub file_words : List ℕ
  pub ask_needs : List ℕ
  pub aux_places : List ℕ
  pub def_places : List (ℕ × ℕ)

-- they are those of the file with so many symbols, of which the versions have no flaw
pub record IsVersionsOf (v : VersionLists) (count : ℕ) (file : List ℕ) : Type 0 where
  pub unflawed : version_flaw count file ≡ None
  pub versions : v.versions ≡ versions_of count file
  pub hidden : v.hidden ≡ hidden_of count file
  pub defs : v.defs ≡ definitions_of file
  pub asks : v.asks ≡ asks_of file
  pub file_words : v.file_words ≡ file_words_of file
  pub ask_needs : v.ask_needs ≡ ask_needs_of file
  pub aux_places : v.aux_places ≡ aux_places_of file
  pub def_places : v.def_places ≡ def_places_of file

-- an ask by what was kept of it
abbrev pub ask_in : List ℕ → Asked → Ask
ask_in file a = record { file = text_of file a.file; name = text_of file a.name; weak = a.weak }

-- where a definition and its first name stand in the file
abbrev pub places_in : Definition → ℕ × ℕ
places_in d = (d.place, d.aux_place)

-- all lists by what was kept
unfoldable pub lists_in : List ℕ → List ℕ → List (Option ℕ) → List Definition → List ℕ → List Asked
    → VersionLists
lists_in file words places definitions file_words asks = record {
  versions = map (version_in file places) words;
  hidden = map (λ word. has_bit VERSYM_HIDDEN word) words;
  defs = map (λ d. text_of file d.name) definitions;
  asks = map (ask_in file) asks;
  file_words = file_words;
  ask_needs = map (λ a. a.need) asks;
  aux_places = map (λ a. a.place) asks;
  def_places = map places_in definitions;
}

-- what is kept of all tables
pub record AreVersionTablesOf (words : List ℕ) (definitions : List Definition) (file_words : List ℕ)
    (asks : List Asked) (count : ℕ) (file : List ℕ) : Type 0 where
  pub symbol_words : words ≡ map (symbol_word file) (range_with_len 0 count)
  pub kept_definitions : definitions ≡ from_on (definition_of file) 0 (verdef_count file)
  pub kept_words : file_words ≡ from_on (file_word_of file) 0 (verneed_count file)
  pub kept_asks : asks ≡ lists_from (asked_of_need file) 0 (verneed_count file)
