-- Each flaw that a file can have has a name.
use Rattle.std.proofs.Common.{ℕ, List, [], ◌∷◌, Option, None, Some, map, refl}
use Rattle.std.specs.Option.{unwrap_or}
use Rattle.std.specs.List.{find, range_with_len}
use Rattle.answers.specs.First.{first_some}
use Rattle.byte_view.proofs.Naming.{AreNamedFlaws, dynamic_named, header_named, named_at, named_first, named_where}
use Rattle.byte_view.specs.Dynamic.{dynamic_entries, strings_of, strings_size, value_of}
use Rattle.byte_view.specs.DynamicFlaws.{dynamic_flaw}
use Rattle.byte_view.specs.FlawNames.{IsNamedFlaw}
use Rattle.byte_view.specs.HeaderFlaws.{header_flaw}
use Rattle.byte_view.specs.Headers.{headers, is_interp}
use Rattle.byte_view.specs.declared.constants.TheConstants.{DT_GNU_HASH, DT_HASH, DT_NEEDED, DT_RPATH, DT_RUNPATH, DT_SONAME}
use Rattle.byte_view.specs.declared.dynamic.Entry.{Entry}
use Rattle.byte_view.specs.declared.flaws.Flaw.{Flaw}
use Rattle.byte_view.specs.declared.segments.Segment.{Segment}
use Rattle.load_model.specs.Faces.{bad_interp, bad_path_in, bad_text_of, bad_version_file, first_flaw, name_flaw}
use Rattle.load_model.specs.SymbolCount.{count_in, hash_count, reach_count, section_count}
use Rattle.load_model.specs.SymbolFlaws.{bad_gnu, bad_symbol_name, bad_sysv, broken_hash, count_by, count_flaw, differing_counts, gnu_in, hash_flaw, list_flaw, no_count, reach_past, symbol_count, symbol_flaw, symbol_flaw_by, symbols_by, sysv_in, unbacked_symbols, wrong_symbol_size}
use Rattle.load_model.specs.SymbolTable.{symbols_at}
use Rattle.load_model.specs.VersionFlaws.{bad_next, bad_text, bad_verdaux, bad_verdef, bad_vernaux, bad_verneed, bad_versym, ends_early, goes_on, symbols_version_flaw, verdef_flaw, verdef_flaw_at, verdefs_flaw, vernaux_flaw, vernaux_flaw_at, vernauxs_flaw, verneed_flaw, verneed_flaw_at, verneeds_flaw, version_flaw}
use Rattle.load_model.specs.VersionFlaws.{index_flaw}
use Rattle.load_model.specs.VersionTables.{vd_next, vda_name, verdaux_of, verdef_count, verdef_place, vernaux_place, verneed_count, verneed_place, vn_cnt, vn_file, vn_next, vna_name, vna_next}
use Rattle.load_model.specs.declared.symbols.RawSym.{RawSym}

-- symbols and hash tables
sysv_named : (file : List ℕ) (segments : List Segment) (place : Option ℕ) → IsNamedFlaw (bad_sysv file segments place)
sysv_named file segments None = tt
sysv_named file segments (Some addr) = named_where _ _ refl

gnu_named : (file : List ℕ) (segments : List Segment) (place : Option ℕ) → IsNamedFlaw (bad_gnu file segments place)
gnu_named file segments None = tt
gnu_named file segments (Some addr) = named_where _ _ refl

hash_named : (file : List ℕ) (segments : List Segment) (entries : List Entry) → IsNamedFlaw (hash_flaw file segments entries)
unfolding hash_flaw
hash_named file segments entries =
    named_first (bad_sysv file segments (value_of DT_HASH entries) ∷ bad_gnu file segments (value_of DT_GNU_HASH entries) ∷ [])
    (sysv_named file segments (value_of DT_HASH entries), (gnu_named file segments (value_of DT_GNU_HASH entries), tt))

differing_named : (section hash : Option ℕ) → IsNamedFlaw (differing_counts section hash)
differing_named None hash = tt
differing_named (Some section) None = tt
differing_named (Some section) (Some hash) = named_where _ _ refl

reach_named : (count : ℕ) (reach : Option ℕ) → IsNamedFlaw (reach_past count reach)
reach_named count None = tt
reach_named count (Some reach) = named_where _ _ refl

count_named : (file : List ℕ) (segments : List Segment) (entries : List Entry) → IsNamedFlaw (count_flaw file segments entries)
unfolding count_flaw
count_named file segments entries =
    named_first (no_count (count_in file segments entries) ∷ differing_counts (section_count file entries) (hash_count file segments entries) ∷ reach_past (unwrap_or (count_in file segments entries) 0) (reach_count file segments entries) ∷ [])
    (named_where _ _ refl, (differing_named (section_count file entries) (hash_count file segments entries), (reach_named (unwrap_or (count_in file segments entries) 0) (reach_count file segments entries), tt)))

list_named : (file : List ℕ) (segments : List Segment) (entries : List Entry) (symbols : List RawSym) → IsNamedFlaw (list_flaw file segments entries symbols)
unfolding list_flaw
list_named file segments entries symbols =
    named_first (bad_symbol_name (strings_size entries) symbols ∷ broken_hash (sysv_in file segments entries) (gnu_in file segments entries) (strings_of file segments entries) symbols ∷ [])
    (named_at _ _ refl, (named_at _ _ refl, tt))

symbols_named : (file : List ℕ) (segments : List Segment) (entries : List Entry) → IsNamedFlaw (symbol_flaw_by file segments entries)
unfolding symbol_flaw_by
symbols_named file segments entries =
    named_first (wrong_symbol_size entries ∷ hash_flaw file segments entries ∷ count_flaw file segments entries ∷ unbacked_symbols segments (symbols_at entries) (count_by file segments entries) ∷ list_flaw file segments entries (symbols_by file segments entries) ∷ [])
    (named_where _ _ refl, (hash_named file segments entries, (count_named file segments entries, (named_where _ _ refl, (list_named file segments entries (symbols_by file segments entries), tt)))))

symbol_named : (file : List ℕ) → IsNamedFlaw (symbol_flaw file)
unfolding symbol_flaw
symbol_named file = symbols_named file (headers file) (dynamic_entries file)

-- versions, record by record
all_named : (f : ℕ → Option Flaw) (xs : List ℕ) → ((k : ℕ) → IsNamedFlaw (f k)) → AreNamedFlaws (map f xs)
all_named f [] each = tt
all_named f (x ∷ xs) each = (each x, all_named f xs each)

each_named : (f : ℕ → Option Flaw) (n : ℕ) → ((k : ℕ) → IsNamedFlaw (f k)) → IsNamedFlaw (first_some (map f (range_with_len 0 n)))
each_named f n each = named_first (map f (range_with_len 0 n)) (all_named f (range_with_len 0 n) each)

next_named : (said k next : ℕ) → IsNamedFlaw (bad_next said k next)
next_named said k next =
    named_first (ends_early said k next ∷ goes_on said k next ∷ []) (named_where _ _ refl, (named_where _ _ refl, tt))

verdef_named_at : (file : List ℕ) (k at : ℕ) → IsNamedFlaw (verdef_flaw_at file k at)
verdef_named_at file k at =
    named_first (bad_verdef file at ∷ bad_verdaux file (verdaux_of file at) ∷ bad_text file (vda_name file (verdaux_of file at)) ∷ bad_next (verdef_count file) k (vd_next file at) ∷ [])
    (named_where _ _ refl, (named_where _ _ refl, (named_where _ _ refl, (next_named (verdef_count file) k (vd_next file at), tt))))

verdefs_named : (file : List ℕ) → IsNamedFlaw (verdefs_flaw file)
unfolding verdefs_flaw verdef_flaw
verdefs_named file = each_named (verdef_flaw file) (verdef_count file) (λ k. verdef_named_at file k (verdef_place file k))

vernaux_named_at : (file : List ℕ) (verneed j at : ℕ) → IsNamedFlaw (vernaux_flaw_at file verneed j at)
vernaux_named_at file verneed j at =
    named_first (bad_vernaux file at ∷ bad_text file (vna_name file at) ∷ bad_next (vn_cnt file verneed) j (vna_next file at) ∷ [])
    (named_where _ _ refl, (named_where _ _ refl, (next_named (vn_cnt file verneed) j (vna_next file at), tt)))

vernauxs_named : (file : List ℕ) (verneed : ℕ) → IsNamedFlaw (vernauxs_flaw file verneed)
unfolding vernauxs_flaw vernaux_flaw
vernauxs_named file verneed =
    each_named (vernaux_flaw file verneed) (vn_cnt file verneed) (λ j. vernaux_named_at file verneed j (vernaux_place file verneed j))

verneed_named_at : (file : List ℕ) (k at : ℕ) → IsNamedFlaw (verneed_flaw_at file k at)
verneed_named_at file k at =
    named_first (bad_verneed file at ∷ bad_text file (vn_file file at) ∷ vernauxs_flaw file at ∷ bad_next (verneed_count file) k (vn_next file at) ∷ [])
    (named_where _ _ refl, (named_where _ _ refl, (vernauxs_named file at, (next_named (verneed_count file) k (vn_next file at), tt))))

verneeds_named : (file : List ℕ) → IsNamedFlaw (verneeds_flaw file)
unfolding verneeds_flaw verneed_flaw
verneeds_named file = each_named (verneed_flaw file) (verneed_count file) (λ k. verneed_named_at file k (verneed_place file k))

indexes_named : (count : ℕ) (file : List ℕ) → IsNamedFlaw (symbols_version_flaw count file)
unfolding symbols_version_flaw index_flaw
indexes_named count file = each_named (index_flaw file) count (λ k. named_where _ _ refl)

version_named : (count : ℕ) (file : List ℕ) → IsNamedFlaw (version_flaw count file)
unfolding version_flaw
version_named count file =
    named_first (bad_versym count file ∷ verdefs_flaw file ∷ verneeds_flaw file ∷ symbols_version_flaw count file ∷ [])
    (named_where _ _ refl, (verdefs_named file, (verneeds_named file, (indexes_named count file, tt))))

-- names
path_named : (file : List ℕ) (segment : Option Segment) → IsNamedFlaw (bad_path_in file segment)
path_named file None = tt
path_named file (Some s) = named_where _ _ refl

texts_named : (file : List ℕ) → IsNamedFlaw (name_flaw file)
unfolding name_flaw
texts_named file =
    named_first (bad_text_of file DT_NEEDED ∷ bad_text_of file DT_SONAME ∷ bad_text_of file DT_RPATH ∷ bad_text_of file DT_RUNPATH ∷ bad_version_file file ∷ bad_interp file ∷ [])
    (named_at _ _ refl, (named_at _ _ refl, (named_at _ _ refl, (named_at _ _ refl, (named_at _ _ refl, (path_named file (find is_interp (headers file)), tt))))))

pub first_flaw_named : (file : List ℕ) → IsNamedFlaw (first_flaw file)
unfolding first_flaw
first_flaw_named file =
    named_first (header_flaw file ∷ dynamic_flaw file ∷ symbol_flaw file ∷ version_flaw (symbol_count file) file ∷ name_flaw file ∷ [])
    (header_named file, (dynamic_named file, (symbol_named file, (version_named (symbol_count file) file, (texts_named file, tt)))))
