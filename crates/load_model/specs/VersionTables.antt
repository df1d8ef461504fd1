-- Symbol versions, as the memory of a file has them (Linux Standard Base, Symbol Versioning)
--
-- A record is named by its address. Its words are numbers in memory, at fixed distances from it.
use Rattle.std.specs.Prelude.{ℕ, zero, suc, ◌+◌, ◌*◌, Bool, cond, ◌==◌, ◌&&◌, List, [], ◌++◌, Option, is_some, map, bit_and}
use Rattle.std.specs.List.{find, flat_map, range_with_len}
use Rattle.std.specs.Option.{option_map, unwrap_or}
use Rattle.byte_view.specs.Dynamic.{dynamic_entries, string_at, value_of}
use Rattle.byte_view.specs.DynamicFlaws.{has_bit}
use Rattle.byte_view.specs.Headers.{headers}
use Rattle.byte_view.specs.Memory.{range_in}
use Rattle.byte_view.specs.declared.constants.TheConstants.{DT_VERSYM, DT_VERDEF, DT_VERDEFNUM, DT_VERNEED, DT_VERNEEDNUM, VER_NDX_LOCAL, VER_NDX_GLOBAL, VERSYM_HIDDEN, VERSYM_VERSION, VER_FLG_WEAK}
use Rattle.load_model.specs.TableWords.{word_in}
use Rattle.load_model.specs.declared.asks.Ask.{Ask}
use Rattle.load_model.specs.declared.symbols.Ver.{Ver}
use Rattle.load_model.specs.declared.symbols.Ver.TheVariants.{Local, Global, Named}

-- the number in n bytes of memory: a word there, by the file's own headers
unfoldable pub memory_number : ℕ → List ℕ → ℕ → ℕ
memory_number n file at = word_in n file (headers file) at

-- where such bytes begin in the file
unfoldable pub file_place : List ℕ → ℕ → ℕ → ℕ
file_place file at size = (unwrap_or (range_in (headers file) at size) (0, 0)).0

-- the text at a string place
abbrev pub text_of : List ℕ → ℕ → List ℕ
text_of file at = unwrap_or (string_at file at) []

-- Verdef, a version definition of 20 bytes; the index that it gives its version has fifteen bits
abbrev pub vd_version : List ℕ → ℕ → ℕ
vd_version file at = memory_number 2 file at

abbrev pub vd_ndx : List ℕ → ℕ → ℕ
vd_ndx file at = memory_number 2 file (at + 4)

abbrev pub vd_cnt : List ℕ → ℕ → ℕ
vd_cnt file at = memory_number 2 file (at + 6)

abbrev pub vd_aux : List ℕ → ℕ → ℕ
vd_aux file at = memory_number 4 file (at + 12)

abbrev pub vd_next : List ℕ → ℕ → ℕ
vd_next file at = memory_number 4 file (at + 16)

-- Verdaux, of 8 bytes: a name of a definition
abbrev pub vda_name : List ℕ → ℕ → ℕ
vda_name file at = memory_number 4 file at

-- Verneed, of 16 bytes: a file of which versions are needed
abbrev pub vn_version : List ℕ → ℕ → ℕ
vn_version file at = memory_number 2 file at

abbrev pub vn_cnt : List ℕ → ℕ → ℕ
vn_cnt file at = memory_number 2 file (at + 2)

abbrev pub vn_file : List ℕ → ℕ → ℕ
vn_file file at = memory_number 4 file (at + 4)

abbrev pub vn_aux : List ℕ → ℕ → ℕ
vn_aux file at = memory_number 4 file (at + 8)

abbrev pub vn_next : List ℕ → ℕ → ℕ
vn_next file at = memory_number 4 file (at + 12)

-- Vernaux, of 16 bytes: a version that is needed of the file
abbrev pub vna_flags : List ℕ → ℕ → ℕ
vna_flags file at = memory_number 2 file (at + 4)

abbrev pub vna_other : List ℕ → ℕ → ℕ
vna_other file at = memory_number 2 file (at + 6)

abbrev pub vna_name : List ℕ → ℕ → ℕ
vna_name file at = memory_number 4 file (at + 8)

abbrev pub vna_next : List ℕ → ℕ → ℕ
vna_next file at = memory_number 4 file (at + 12)

-- record number k of some that follow one another: each lies as far behind the one before it as the
-- next word of that one says
unfoldable pub record_place : (ℕ → ℕ) → ℕ → ℕ → ℕ
record_place next first zero = first
record_place next first (suc k) = record_place next first k + next (record_place next first k)

-- the value of a tag of the dynamic table
abbrev pub dynamic_value : List ℕ → ℕ → Option ℕ
dynamic_value file tag = value_of tag (dynamic_entries file)

-- how many records a table has: none where there is no table
abbrev pub record_count : Option ℕ → Option ℕ → ℕ
record_count table said = cond (is_some table) (unwrap_or said 0) 0

-- the definitions, each with its first Verdaux
abbrev pub verdef_count : List ℕ → ℕ
verdef_count file = record_count (dynamic_value file DT_VERDEF) (dynamic_value file DT_VERDEFNUM)

unfoldable pub verdef_place : List ℕ → ℕ → ℕ
verdef_place file k = record_place (vd_next file) (unwrap_or (dynamic_value file DT_VERDEF) 0) k

abbrev pub verdefs : List ℕ → List ℕ
verdefs file = map (verdef_place file) (range_with_len 0 (verdef_count file))

abbrev pub verdaux_of : List ℕ → ℕ → ℕ
verdaux_of file verdef = verdef + vd_aux file verdef

-- the needs
abbrev pub verneed_count : List ℕ → ℕ
verneed_count file = record_count (dynamic_value file DT_VERNEED) (dynamic_value file DT_VERNEEDNUM)

unfoldable pub verneed_place : List ℕ → ℕ → ℕ
verneed_place file k = record_place (vn_next file) (unwrap_or (dynamic_value file DT_VERNEED) 0) k

abbrev pub verneeds : List ℕ → List ℕ
verneeds file = map (verneed_place file) (range_with_len 0 (verneed_count file))

-- the Vernaux of a need, and those of all needs in order, each with its need's number
unfoldable pub vernaux_place : List ℕ → ℕ → ℕ → ℕ
vernaux_place file verneed j = record_place (vna_next file) (verneed + vn_aux file verneed) j

abbrev pub vernauxs_of : List ℕ → ℕ → List ℕ
vernauxs_of file verneed = map (vernaux_place file verneed) (range_with_len 0 (vn_cnt file verneed))

unfoldable pub vernauxs : List ℕ → List (ℕ × ℕ)
vernauxs file =
    flat_map (λ k. map (λ vernaux. (k, vernaux)) (vernauxs_of file (verneed_place file k)))
    (range_with_len 0 (verneed_count file))

-- the version indexes that definitions and needs give, definitions first, each with the string
-- place of the version's name
abbrev pub index_in : ℕ → ℕ
index_in word = bit_and word VERSYM_VERSION

abbrev pub defined_name : List ℕ → ℕ → ℕ × ℕ
defined_name file verdef = (index_in (vd_ndx file verdef), vda_name file (verdaux_of file verdef))

abbrev pub needed_name : List ℕ → ℕ → ℕ × ℕ
needed_name file vernaux = (index_in (vna_other file vernaux), vna_name file vernaux)

unfoldable pub indexed_names : List ℕ → List (ℕ × ℕ)
indexed_names file =
    map (defined_name file) (verdefs file) ++ map (λ a. needed_name file a.1) (vernauxs file)

-- of an index, the first of them counts
abbrev pub place_by : ℕ → List (ℕ × ℕ) → Option ℕ
place_by index names = option_map (λ n. n.1) (find (λ n. n.0 == index) names)

-- versym: a word for each symbol, with its version index and whether it is hidden; without versym
-- each has the index 1
abbrev pub is_versioned : List ℕ → Bool
is_versioned file = is_some (dynamic_value file DT_VERSYM)

abbrev pub versym : List ℕ → ℕ
versym file = unwrap_or (dynamic_value file DT_VERSYM) 0

abbrev pub versym_word : List ℕ → ℕ → ℕ
versym_word file symbol = memory_number 2 file (versym file + 2 * symbol)

abbrev pub version_index : List ℕ → ℕ → ℕ
version_index file symbol =
    cond (is_versioned file) (index_in (versym_word file symbol)) VER_NDX_GLOBAL

abbrev pub is_hidden : List ℕ → ℕ → Bool
is_hidden file symbol = is_versioned file && has_bit VERSYM_HIDDEN (versym_word file symbol)

-- the version with an index, of which a name is known from 2 on
abbrev pub name_by : List ℕ → Option ℕ → List ℕ
name_by file place = unwrap_or (option_map (text_of file) place) []

abbrev pub version_by : List ℕ → ℕ → Option ℕ → Ver
version_by file index place =
    cond (index == VER_NDX_LOCAL) Local
    (cond (index == VER_NDX_GLOBAL) Global (Named index (name_by file place)))

abbrev pub version_of : List ℕ → ℕ → Ver
version_of file symbol =
    version_by file (version_index file symbol)
    (place_by (version_index file symbol) (indexed_names file))

-- the versions of so many symbols, and whether they are hidden
unfoldable pub versions_of : ℕ → List ℕ → List Ver
versions_of count file = map (version_of file) (range_with_len 0 count)

unfoldable pub hidden_of : ℕ → List ℕ → List Bool
hidden_of count file = map (is_hidden file) (range_with_len 0 count)

-- the names of the definitions
unfoldable pub definitions_of : List ℕ → List (List ℕ)
definitions_of file =
    map (λ verdef. text_of file (vda_name file (verdaux_of file verdef))) (verdefs file)

-- what is asked of which file
abbrev pub ask_of : List ℕ → ℕ → ℕ → Ask
ask_of file verneed vernaux = record {
  file = text_of file (vn_file file verneed);
  name = text_of file (vna_name file vernaux);
  weak = has_bit VER_FLG_WEAK (vna_flags file vernaux);
}

unfoldable pub asks_of : List ℕ → List Ask
asks_of file = map (λ a. ask_of file (verneed_place file a.0) a.1) (vernauxs file)

-- file places: of each vn_file word, of each Vernaux, and of each Verdef and its first Verdaux; for
-- each Vernaux the number of its need
unfoldable pub file_words_of : List ℕ → List ℕ
file_words_of file = map (λ verneed. file_place file verneed 16 + 4) (verneeds file)

unfoldable pub ask_needs_of : List ℕ → List ℕ
ask_needs_of file = map (λ a. a.0) (vernauxs file)

unfoldable pub aux_places_of : List ℕ → List ℕ
aux_places_of file = map (λ a. file_place file a.1 16) (vernauxs file)

unfoldable pub def_places_of : List ℕ → List (ℕ × ℕ)
def_places_of file =
    map (λ verdef. (file_place file verdef 20, file_place file (verdaux_of file verdef) 8))
    (verdefs file)
