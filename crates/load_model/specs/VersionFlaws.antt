-- The flaws of the symbol versions, in the order in which they are named (Linux Standard Base,
-- Symbol Versioning; docs/ELF.md)
use Rattle.std.specs.Prelude.{ℕ, ◌+◌, ◌*◌, Bool, not, ◌==◌, ◌&&◌, ◌||◌, nat_le, nat_lt, List, [], ◌∷◌, Option, is_some, map}
use Rattle.std.specs.List.{range_with_len}
use Rattle.answers.specs.First.{first_some, some_where}
use Rattle.byte_view.specs.Checks.{flaw}
use Rattle.byte_view.specs.Dynamic.{dynamic_entries, strings_size}
use Rattle.byte_view.specs.Headers.{headers}
use Rattle.byte_view.specs.Memory.{range_in}
use Rattle.byte_view.specs.declared.constants.TheConstants.{VER_CURRENT, VER_NDX_GLOBAL}
use Rattle.byte_view.specs.declared.flaws.Flaw.{Flaw}
use Rattle.byte_view.specs.declared.flaws.TheConstants.{STRING_PLACE, UNKNOWN_INDEX, VERSION_COUNT, VERSION_RANGE}
use Rattle.load_model.specs.VersionTables.{indexed_names, is_versioned, place_by, vd_cnt, vd_next, vd_version, vda_name, verdaux_of, verdef_count, verdef_place, vernaux_place, verneed_count, verneed_place, version_index, versym, vn_cnt, vn_file, vn_next, vn_version, vna_name, vna_next}

-- memory does not have these bytes from the file
abbrev pub is_unbacked : List ℕ → ℕ → ℕ → Bool
is_unbacked file at size = not (is_some (range_in (headers file) at size))

-- 30, VersionRange: a record that is not in the file, of another version, or a definition without a
-- name; its address
abbrev pub bad_versym : ℕ → List ℕ → Option Flaw
bad_versym count file =
    some_where (is_versioned file && is_unbacked file (versym file) (2 * count))
    (flaw VERSION_RANGE (versym file) 0)

abbrev pub bad_verdef : List ℕ → ℕ → Option Flaw
bad_verdef file at =
    some_where (is_unbacked file at 20 || (not (vd_version file at == VER_CURRENT) || (vd_cnt file
    at == 0))) (flaw VERSION_RANGE at 0)

abbrev pub bad_verdaux : List ℕ → ℕ → Option Flaw
bad_verdaux file at = some_where (is_unbacked file at 8) (flaw VERSION_RANGE at 0)

abbrev pub bad_verneed : List ℕ → ℕ → Option Flaw
bad_verneed file at =
    some_where (is_unbacked file at 16 || not (vn_version file at == VER_CURRENT))
    (flaw VERSION_RANGE at 0)

abbrev pub bad_vernaux : List ℕ → ℕ → Option Flaw
bad_vernaux file at = some_where (is_unbacked file at 16) (flaw VERSION_RANGE at 0)

-- 22, StringPlace: a name that lies past the string table
abbrev pub bad_text : List ℕ → ℕ → Option Flaw
bad_text file place =
    some_where (nat_le (strings_size (dynamic_entries file)) place) (flaw STRING_PLACE place 0)

-- 31, VersionCount: record k, counted from 0, is the last by its next word and not by the said
-- number, or the other way round
abbrev pub ends_early : ℕ → ℕ → ℕ → Option Flaw
ends_early said k next =
    some_where (nat_lt (k + 1) said && (next == 0)) (flaw VERSION_COUNT said (k + 1))

abbrev pub goes_on : ℕ → ℕ → ℕ → Option Flaw
goes_on said k next =
    some_where ((k + 1 == said) && not (next == 0)) (flaw VERSION_COUNT said (said + 1))

abbrev pub bad_next : ℕ → ℕ → ℕ → Option Flaw
bad_next said k next = first_some (ends_early said k next ∷ goes_on said k next ∷ [])

-- a definition: the record, its first Verdaux and the name there, and at last its next word
abbrev pub verdef_flaw_at : List ℕ → ℕ → ℕ → Option Flaw
verdef_flaw_at file k at =
    first_some (bad_verdef file at ∷ bad_verdaux file (verdaux_of file at) ∷ bad_text file (vda_name
    file (verdaux_of file at)) ∷ bad_next (verdef_count file) k (vd_next file at) ∷ [])

unfoldable pub verdef_flaw : List ℕ → ℕ → Option Flaw
verdef_flaw file k = verdef_flaw_at file k (verdef_place file k)

unfoldable pub verdefs_flaw : List ℕ → Option Flaw
verdefs_flaw file = first_some (map (verdef_flaw file) (range_with_len 0 (verdef_count file)))

-- a needed version: the record, its name, its next word
abbrev pub vernaux_flaw_at : List ℕ → ℕ → ℕ → ℕ → Option Flaw
vernaux_flaw_at file verneed j at =
    first_some (bad_vernaux file at ∷ bad_text file (vna_name file at) ∷ bad_next (vn_cnt file
    verneed) j (vna_next file at) ∷ [])

unfoldable pub vernaux_flaw : List ℕ → ℕ → ℕ → Option Flaw
vernaux_flaw file verneed j = vernaux_flaw_at file verneed j (vernaux_place file verneed j)

unfoldable pub vernauxs_flaw : List ℕ → ℕ → Option Flaw
vernauxs_flaw file verneed =
    first_some (map (vernaux_flaw file verneed) (range_with_len 0 (vn_cnt file verneed)))

-- a need: the record, the name of the file, the versions that are needed of it, and at last its
-- next word
abbrev pub verneed_flaw_at : List ℕ → ℕ → ℕ → Option Flaw
verneed_flaw_at file k at =
    first_some (bad_verneed file at ∷ bad_text file (vn_file file at) ∷ vernauxs_flaw file at ∷
    bad_next (verneed_count file) k (vn_next file at) ∷ [])

unfoldable pub verneed_flaw : List ℕ → ℕ → Option Flaw
verneed_flaw file k = verneed_flaw_at file k (verneed_place file k)

unfoldable pub verneeds_flaw : List ℕ → Option Flaw
verneeds_flaw file = first_some (map (verneed_flaw file) (range_with_len 0 (verneed_count file)))

-- 32, UnknownIndex: a symbol whose version index is 2 or more and has no name
abbrev pub unknown_index : List (ℕ × ℕ) → ℕ → ℕ → Option Flaw
unknown_index names symbol index =
    some_where (nat_lt VER_NDX_GLOBAL index && not (is_some (place_by index names)))
    (flaw UNKNOWN_INDEX symbol index)

unfoldable pub index_flaw : List ℕ → ℕ → Option Flaw
index_flaw file symbol = unknown_index (indexed_names file) symbol (version_index file symbol)

unfoldable pub symbols_version_flaw : ℕ → List ℕ → Option Flaw
symbols_version_flaw count file = first_some (map (index_flaw file) (range_with_len 0 count))

-- the first flaw of the versions of a file with so many symbols, of which headers, dynamic table
-- and symbols have none
unfoldable pub version_flaw : ℕ → List ℕ → Option Flaw
version_flaw count file =
    first_some (bad_versym count file ∷ verdefs_flaw file ∷ verneeds_flaw file ∷
    symbols_version_flaw count file ∷ [])
