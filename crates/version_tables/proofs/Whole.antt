-- All tables together.
use Rattle.std.proofs.Common.{◌≡◌, ℕ, List, [], ◌∷◌, ◌++◌, Option, Some, None, length, map, refl, ap, ◌∙◌}
use Rattle.std.specs.List.{range_with_len}
use Rattle.std.proofs.lemmas.List.{length-map}
use Rattle.answers.specs.Answers.{Names}
use Rattle.answers.specs.First.{first_some}
use Rattle.byte_view.specs.declared.flaws.Flaw.{Flaw}
use Rattle.load_model.specs.VersionFlaws.{bad_versym, symbols_version_flaw, verdefs_flaw, verneeds_flaw, version_flaw}
use Rattle.load_model.specs.VersionTables.{indexed_names, text_of, verdef_count, verneed_count}
use Rattle.version_tables.specs.Indexes.{AreFirst, index_count, name_in_asked, name_in_definition, symbol_word, unknown_at}
use Rattle.version_tables.specs.VersionLists.{AreVersionTablesOf, IsVersionsOf, VersionLists, ask_in, lists_in, places_in}
use Rattle.version_tables.specs.Walks.{asked_of_need, definition_of, from_on, lists_from}
use Rattle.version_tables.specs.declared.asked.Asked.{Asked}
use Rattle.version_tables.specs.declared.definitions.Definition.{Definition}
use Rattle.version_tables.proofs.Assembled.{kept_aux_places, kept_file_words, kept_indexes, kept_named_asks, kept_names, kept_numbers, kept_places}
use Rattle.version_tables.proofs.SymbolVersions.{made_hidden, made_versions, symbols_checked}

pub names_first : (size : ℕ) (file : List ℕ) (places : List (Option ℕ)) (definitions noted_definitions : List Definition) (asks noted_asks : List Asked) → size ≡ index_count file → noted_definitions ≡ definitions → noted_asks ≡ asks → definitions ≡ from_on (definition_of file) 0 (verdef_count file) → asks ≡ lists_from (asked_of_need file) 0 (verneed_count file) → AreFirst size places (map name_in_definition noted_definitions ++ map name_in_asked noted_asks) → AreFirst (index_count file) places (indexed_names file)
names_first size file places definitions noted_definitions asks noted_asks s nd na d a f =
    let same : map name_in_definition noted_definitions ++ map name_in_asked noted_asks ≡ indexed_names file = rw (nd, na, d, a) (kept_indexes file) in
    rw (s, same) at f

-- the checks of the symbols, by the lists that were checked
pub symbols_named : (file words checked : List ℕ) (places noted : List (Option ℕ)) (count : ℕ) → checked ≡ words → noted ≡ places → words ≡ map (symbol_word file) (range_with_len 0 count) → AreFirst (index_count file) places (indexed_names file) → first_some (from_on (unknown_at noted checked) 0 (length checked)) ≡ symbols_version_flaw count file
symbols_named file words checked places noted count c n w f = rw (c, n) (symbols_checked file words places count w f)

pub all_unflawed : (count : ℕ) (file : List ℕ) → bad_versym count file ≡ None → verdefs_flaw file ≡ None → verneeds_flaw file ≡ None → symbols_version_flaw count file ≡ None → version_flaw count file ≡ None
unfolding version_flaw
all_unflawed count file v d n s = rw (v, d, n, s) refl

pub last_named : (count : ℕ) (file : List ℕ) (o : Option Flaw) → bad_versym count file ≡ None → verdefs_flaw file ≡ None → verneeds_flaw file ≡ None → Names o (symbols_version_flaw count file) → Names o (version_flaw count file)
unfolding version_flaw
last_named count file o v d n s = rw (v, d, n) (go (symbols_version_flaw count file) s)
  where
    go : (x : Option Flaw) → Names o x → Names o (first_some (x ∷ []))
    go None s = s
    go (Some f) s = s

pub lists_made : (file words : List ℕ) (places : List (Option ℕ)) (definitions : List Definition) (file_words : List ℕ) (asks : List Asked) (count : ℕ) (v : VersionLists) → version_flaw count file ≡ None → AreVersionTablesOf words definitions file_words asks count file → AreFirst (index_count file) places (indexed_names file) → v ≡ lists_in file words places definitions file_words asks → IsVersionsOf v count file
unfolding lists_in
lists_made file words places definitions file_words asks count v e t f is = record {
  unflawed = e;
  versions = ap (λ (x : VersionLists). x.versions) is ∙ made_versions file words places count t.symbol_words f;
  hidden = ap (λ (x : VersionLists). x.hidden) is ∙ made_hidden file words count t.symbol_words;
  defs = ap (λ (x : VersionLists). x.defs) is ∙ (ap (map (λ (d : Definition). text_of file d.name)) t.kept_definitions ∙ kept_names file);
  asks = ap (λ (x : VersionLists). x.asks) is ∙ (ap (map (ask_in file)) t.kept_asks ∙ kept_named_asks file);
  file_words = ap (λ (x : VersionLists). x.file_words) is ∙ (t.kept_words ∙ kept_file_words file);
  ask_needs = ap (λ (x : VersionLists). x.ask_needs) is ∙ (ap (map (λ (a : Asked). a.need)) t.kept_asks ∙ kept_numbers file);
  aux_places = ap (λ (x : VersionLists). x.aux_places) is ∙ (ap (map (λ (a : Asked). a.place)) t.kept_asks ∙ kept_aux_places file);
  def_places = ap (λ (x : VersionLists). x.def_places) is ∙ (ap (map places_in) t.kept_definitions ∙ kept_places file);
}

pub as_many : (file words : List ℕ) (places : List (Option ℕ)) (definitions : List Definition) (file_words : List ℕ) (asks : List Asked) (v : VersionLists) → v ≡ lists_in file words places definitions file_words asks → length v.asks ≡ length asks
unfolding lists_in
as_many file words places definitions file_words asks v is = ap (λ (x : VersionLists). length x.asks) is ∙ length-map asks (ask_in file)
