-- Where the tables of a file stand in it, by their numbers, and which of them share a place
use Rattle.std.specs.Prelude.{ℕ, ◌+◌, ◌-◌, ◌*◌, ◌==◌, ◌&&◌, ◌||◌, ◌≤◌, Bool, true, false, cond, not, nat_le, nat_lt, max, min, List, [], ◌∷◌, ◌++◌, Option, Some, None, map, slice_index_or}
use Rattle.std.specs.List.{find, flat_map, list_any, range_with_len, sum_by}
use Rattle.byte_view.specs.Dynamic.{capacity_of, dynamic_entries, strings_at, strings_size}
use Rattle.byte_view.specs.Headers.{e_phnum, e_phoff, e_shnum, e_shoff, file_end, headers, is_dynamic, is_interp}
use Rattle.byte_view.specs.Memory.{range_in}
use Rattle.byte_view.specs.declared.segments.Segment.{Segment}
use Rattle.load_model.specs.SymbolCount.{has_sections}
use Rattle.load_model.specs.SymbolFlaws.{gnu_range, symbol_count, sysv_range}
use Rattle.load_model.specs.SymbolTable.{symbols_at}
use Rattle.load_model.specs.VersionTables.{aux_places_of, def_places_of, file_words_of, is_versioned, versym}
use Rattle.two_files.specs.Kept.{Range, covers}
use Rattle.elf_rewrite.specs.declared.numbering.TheConstants.{HEADER, SEGMENTS, INTERP, DYNAMIC, STRINGS, SYMBOLS, VERSYM, VERNEED, VERDEF, HASH, GNU_HASH, SECTIONS}

abbrev pub from_place : ℕ → ℕ → Range
from_place size at = (at, at + size)

abbrev pub where_known : Option Range → List Range
where_known None = []
where_known (Some range) = range ∷ []

abbrev pub segment_range : Option Segment → Option Range
segment_range None = None
segment_range (Some s) = Some (s.offset, file_end s)

-- Up to its capacity.
abbrev pub table_range : Option Segment → Option Range
table_range None = None
table_range (Some s) = Some (from_place (16 * capacity_of s) s.offset)

abbrev pub versym_range : List ℕ → Option Range
versym_range b = cond (is_versioned b) (range_in (headers b) (versym b) (2 * symbol_count b)) None

abbrev pub section_range : List ℕ → Option Range
section_range b = cond (has_sections b && not (e_shnum b == 0))
    (Some (from_place (64 * e_shnum b) (e_shoff b))) None

-- A table that stands in one piece.
unfoldable pub single_range : List ℕ → ℕ → Option Range
single_range b n =
    cond (n == HEADER) (Some (from_place 64 0))
    (cond (n == SEGMENTS) (Some (from_place (56 * e_phnum b) (e_phoff b)))
    (cond (n == INTERP) (segment_range (find is_interp (headers b)))
    (cond (n == DYNAMIC) (table_range (find is_dynamic (headers b)))
    (cond (n == STRINGS) (range_in (headers b) (strings_at (dynamic_entries b))
    (strings_size (dynamic_entries b)))
    (cond (n == SYMBOLS) (range_in (headers b) (symbols_at (dynamic_entries b))
    (24 * symbol_count b))
    (cond (n == VERSYM) (versym_range b)
    (cond (n == HASH) (sysv_range b)
    (cond (n == GNU_HASH) (gnu_range b)
    (cond (n == SECTIONS) (section_range b) None)))))))))

abbrev pub need_ranges : List ℕ → List Range
need_ranges b = map (λ at. from_place 16 (at - 4)) (file_words_of b)

abbrev pub asked_ranges : List ℕ → List Range
asked_ranges b = map (λ at. from_place 16 at) (aux_places_of b)

abbrev pub definition_ranges : List ℕ → List Range
definition_ranges b = flat_map (λ p. from_place 20 p.0 ∷ from_place 8 p.1 ∷ []) (def_places_of b)

-- The places of a table, by its number.
unfoldable pub ranges_of : List ℕ → ℕ → List Range
ranges_of b n =
    cond (n == VERNEED) (need_ranges b ++ asked_ranges b)
    (cond (n == VERDEF) (definition_ranges b) (where_known (single_range b n)))

-- All tables, in the order of their numbers.
abbrev pub tables : List ℕ → List (List Range)
tables b = map (λ n. ranges_of b n) (range_with_len HEADER SECTIONS)

abbrev pub ranges_of_table : List (List Range) → ℕ → List Range
ranges_of_table ts n = slice_index_or ts (n - 1) []

-- They share a place.
abbrev pub meets : Range → Range → Bool
meets r s = nat_lt (max r.0 s.0) (min r.1 s.1)

abbrev pub share : List Range → List Range → Bool
share rs ss = list_any (λ r. list_any (λ s. meets r s) ss) rs

-- In how many of the ranges a place lies.
abbrev pub times_in : ℕ → List Range → ℕ
times_in i rs = sum_by (λ r. cond (covers i r) 1 0) rs

-- No place lies in two of them.
pub record NoneMeet (rs : List Range) : Type 0 where
  pub once : (i : ℕ) → times_in i rs ≤ 1

-- Each that has a place begins at or behind the ends of those before it.
abbrev pub ascends : ℕ → List Range → Bool
ascends low [] = true
ascends low (r ∷ more) = (nat_le low r.0 || nat_le r.1 r.0) && ascends (max low r.1) more

-- Two of one list do.
abbrev pub shares_within : List Range → Bool
shares_within [] = false
shares_within (r ∷ more) = list_any (λ s. meets r s) more || shares_within more

-- Two tables do; of one table only needs with one another, or with what is asked.
abbrev pub overlaps : List (List Range) → List Range → List Range → ℕ → ℕ → Bool
overlaps ts needs asked m n =
    cond (m == n) ((m == VERNEED) && (shares_within needs || share needs asked))
    (share (ranges_of_table ts m) (ranges_of_table ts n))

-- The tables that one is looked at beside, itself and those above it.
abbrev pub beside : ℕ → List ℕ
beside m = range_with_len m (SECTIONS + 1 - m)

abbrev pub pairs_of : ℕ → List (ℕ × ℕ)
pairs_of m = map (λ n. (m, n)) (beside m)

-- The first pair that shares a place, in the order of its numbers.
unfoldable pub first_pair : List (List Range) → List Range → List Range → Option (ℕ × ℕ)
first_pair ts needs asked =
    find (λ p. overlaps ts needs asked p.0 p.1) (flat_map (λ m. pairs_of m)
    (range_with_len HEADER SECTIONS))

unfoldable pub first_overlap : List ℕ → Option (ℕ × ℕ)
first_overlap b = first_pair (tables b) (need_ranges b) (asked_ranges b)
