-- What was kept of the records, in the words of the tables.
use Rattle.std.proofs.Common.{◌≡◌, ℕ, ◌+◌, ◌-◌, List, [], ◌∷◌, ◌++◌, map, refl, ap, sym, ◌∙◌, arith}
use Rattle.std.specs.List.{flat_map, range_with_len}
use Rattle.std.proofs.lemmas.List.{map-append}
use Rattle.load_model.specs.VersionTables.{ask_needs_of, ask_of, asks_of, aux_places_of, def_places_of, defined_name, definitions_of, file_place, file_words_of, indexed_names, needed_name, text_of, vda_name, verdaux_of, verdef_count, verdef_place, verdefs, vernaux_place, vernauxs, vernauxs_of, verneed_count, verneed_place, vn_cnt}
use Rattle.version_tables.specs.Indexes.{name_in_asked, name_in_definition}
use Rattle.version_tables.specs.Records.{asked_at, definition_at}
use Rattle.version_tables.specs.VersionLists.{ask_in, places_in}
use Rattle.version_tables.specs.Walks.{asked_of_record, asked_of, asked_of_need, definition_of, file_word_of, from_on, lists_from}
use Rattle.version_tables.specs.declared.asked.Asked.{Asked}
use Rattle.version_tables.specs.declared.definitions.Definition.{Definition}
use Rattle.version_tables.proofs.Walks.{from_on_all}

-- one function after another
pub map_twice : {A B C : Type 0} (g : B → C) (f : A → B) (h : A → C) (xs : List A) → ((x : A) → g (f x) ≡ h x) → map g (map f xs) ≡ map h xs
map_twice g f h [] each = refl
map_twice g f h (x ∷ xs) each =
    let here : g (f x) ≡ h x = each x in
    let rest : map g (map f xs) ≡ map h xs = map_twice g f h xs each in
    rw (here, rest) refl

map_lists : {A B C : Type 0} (h : B → C) (f : A → List B) (g : A → List C) (xs : List A) → ((x : A) → map h (f x) ≡ g x) → map h (flat_map f xs) ≡ flat_map g xs
map_lists h f g [] each = refl
map_lists h f g (x ∷ xs) each =
    let here : map h (f x) ≡ g x = each x in
    let rest : map h (flat_map f xs) ≡ flat_map g xs = map_lists h f g xs each in
    map-append h (f x) (flat_map f xs) ∙ rw (here, rest) refl

-- the definitions
kept_definitions : (file : List ℕ) → from_on (definition_of file) 0 (verdef_count file) ≡ map (definition_at file) (verdefs file)
unfolding definition_of
kept_definitions file =
    from_on_all (definition_of file) (verdef_count file) ∙ sym (map_twice (definition_at file) (verdef_place file) (definition_of file) (range_with_len 0 (verdef_count file)) (λ k. refl))

pub kept_names : (file : List ℕ) → map (λ (d : Definition). text_of file d.name) (from_on (definition_of file) 0 (verdef_count file)) ≡ definitions_of file
unfolding definitions_of definition_at
kept_names file =
    ap (map (λ (d : Definition). text_of file d.name)) (kept_definitions file) ∙ map_twice (λ (d : Definition). text_of file d.name) (definition_at file) (λ verdef. text_of file (vda_name file (verdaux_of file verdef))) (verdefs file) (λ at. refl)

pub kept_places : (file : List ℕ) → map places_in (from_on (definition_of file) 0 (verdef_count file)) ≡ def_places_of file
unfolding def_places_of definition_at
kept_places file =
    ap (map places_in) (kept_definitions file) ∙ map_twice places_in (definition_at file) (λ verdef. (file_place file verdef 20, file_place file (verdaux_of file verdef) 8)) (verdefs file) (λ at. refl)

kept_defined : (file : List ℕ) → map name_in_definition (from_on (definition_of file) 0 (verdef_count file)) ≡ map (defined_name file) (verdefs file)
unfolding definition_at
kept_defined file =
    ap (map name_in_definition) (kept_definitions file) ∙ map_twice name_in_definition (definition_at file) (defined_name file) (verdefs file) (λ at. refl)

-- the file words
pub kept_file_words : (file : List ℕ) → from_on (file_word_of file) 0 (verneed_count file) ≡ file_words_of file
unfolding file_words_of file_word_of
kept_file_words file =
    from_on_all (file_word_of file) (verneed_count file) ∙ sym (map_twice (λ verneed. file_place file verneed 16 + 4) (verneed_place file) (file_word_of file) (range_with_len 0 (verneed_count file)) (λ k. refl))

-- the asks
abbrev kept_ask : List ℕ → ℕ × ℕ → Asked
kept_ask file a = asked_at file a.0 (verneed_place file a.0) a.1

need_asks : (file : List ℕ) (k : ℕ) → map (kept_ask file) (map (λ vernaux. (k, vernaux)) (vernauxs_of file (verneed_place file k))) ≡ asked_of_need file k
unfolding asked_of_need asked_of_record asked_of
need_asks file k =
    map_twice (kept_ask file) (λ vernaux. (k, vernaux)) (asked_at file k (verneed_place file k)) (vernauxs_of file (verneed_place file k)) (λ at. refl)
    ∙ (map_twice (asked_at file k (verneed_place file k)) (vernaux_place file (verneed_place file k)) (asked_of file k (verneed_place file k)) (range_with_len 0 (vn_cnt file (verneed_place file k))) (λ j. refl)
    ∙ sym (from_on_all (asked_of file k (verneed_place file k)) (vn_cnt file (verneed_place file k))))

lists_from_all : {X : Type 0} (f : ℕ → List X) (n : ℕ) → lists_from f 0 n ≡ flat_map f (range_with_len 0 n)
unfolding lists_from
lists_from_all f n =
    let left : n - 0 ≡ n = omega arith in
    ap (λ (m : ℕ). flat_map f (range_with_len 0 m)) left

kept_asks : (file : List ℕ) → lists_from (asked_of_need file) 0 (verneed_count file) ≡ map (kept_ask file) (vernauxs file)
unfolding vernauxs
kept_asks file =
    lists_from_all (asked_of_need file) (verneed_count file)
    ∙ sym (map_lists (kept_ask file) (λ k. map (λ vernaux. (k, vernaux)) (vernauxs_of file (verneed_place file k))) (asked_of_need file) (range_with_len 0 (verneed_count file)) (need_asks file))

pub kept_named_asks : (file : List ℕ) → map (ask_in file) (lists_from (asked_of_need file) 0 (verneed_count file)) ≡ asks_of file
unfolding asks_of asked_at
kept_named_asks file =
    ap (map (ask_in file)) (kept_asks file) ∙ map_twice (ask_in file) (kept_ask file) (λ a. ask_of file (verneed_place file a.0) a.1) (vernauxs file) (λ a. refl)

pub kept_numbers : (file : List ℕ) → map (λ (a : Asked). a.need) (lists_from (asked_of_need file) 0 (verneed_count file)) ≡ ask_needs_of file
unfolding ask_needs_of asked_at
kept_numbers file =
    ap (map (λ (a : Asked). a.need)) (kept_asks file) ∙ map_twice (λ (a : Asked). a.need) (kept_ask file) (λ a. a.0) (vernauxs file) (λ a. refl)

pub kept_aux_places : (file : List ℕ) → map (λ (a : Asked). a.place) (lists_from (asked_of_need file) 0 (verneed_count file)) ≡ aux_places_of file
unfolding aux_places_of asked_at
kept_aux_places file =
    ap (map (λ (a : Asked). a.place)) (kept_asks file) ∙ map_twice (λ (a : Asked). a.place) (kept_ask file) (λ a. file_place file a.1 16) (vernauxs file) (λ a. refl)

kept_needed : (file : List ℕ) → map name_in_asked (lists_from (asked_of_need file) 0 (verneed_count file)) ≡ map (λ a. needed_name file a.1) (vernauxs file)
unfolding asked_at
kept_needed file =
    ap (map name_in_asked) (kept_asks file) ∙ map_twice name_in_asked (kept_ask file) (λ a. needed_name file a.1) (vernauxs file) (λ a. refl)

-- the names by index
pub kept_indexes : (file : List ℕ) → map name_in_definition (from_on (definition_of file) 0 (verdef_count file)) ++ map name_in_asked (lists_from (asked_of_need file) 0 (verneed_count file)) ≡ indexed_names file
unfolding indexed_names
kept_indexes file = rw (kept_defined file, kept_needed file) refl
