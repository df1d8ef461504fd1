-- What a file without a flaw has, part by part
use Rattle.std.proofs.Common.{◌≡◌, ℕ, ◌<◌, ◌≤◌, ◌==◌, ◌||◌, Bool, true, false, cond, not, List, [], ◌∷◌, Option, Some, None, is_some, length, refl, arith}
use Rattle.std.specs.Prelude.{nat_lt}
use Rattle.std.specs.List.{before_first, find}
use Rattle.std.proofs.lemmas.Bool.Decides.{nat_tests}
use Rattle.answers.specs.First.{some_where}
use Rattle.byte_view.specs.Checks.{flaw}
use Rattle.byte_view.specs.Dynamic.{dynamic_entries, dynamic_table, is_end, strings_at, strings_size}
use Rattle.byte_view.specs.DynamicFlaws.{bad_name, begins_at, dynamic_flaw, entry_flaw, misplaced, missing_flaw, no_end, no_strings, place_flaw, segment_flaw_by, strings_flaw, table_flaw, tags_flaw, two_dynamic, unended_strings}
use Rattle.byte_view.specs.HeaderFlaws.{has_bad_range, header_flaw}
use Rattle.byte_view.specs.Headers.{file_end, headers, is_dynamic, is_interp}
use Rattle.byte_view.specs.Memory.{range_in}
use Rattle.byte_view.specs.declared.flaws.TheConstants.{DYNAMIC_PLACE, STRINGS_RANGE}
use Rattle.byte_view.specs.declared.constants.TheConstants.{DT_NEEDED, DT_SONAME, DT_RPATH, DT_RUNPATH}
use Rattle.byte_view.specs.declared.dynamic.Entry.{Entry}
use Rattle.byte_view.specs.declared.segments.Segment.{Segment}
use Rattle.byte_view.proofs.Found.{find_all, find_passes}
use Rattle.byte_view.proofs.Loads.{none_first, sound_file}
use Rattle.load_model.specs.Faces.{bad_interp, bad_text_of, bad_version_file, first_flaw, name_flaw}
use Rattle.load_model.specs.SymbolFlaws.{symbol_count, symbol_flaw}
use Rattle.load_model.specs.VersionFlaws.{version_flaw}

pub record AreUnflawed (b : List ℕ) : Type 0 where
  pub headers : header_flaw b ≡ None
  pub dynamic : dynamic_flaw b ≡ None
  pub symbols : symbol_flaw b ≡ None
  pub versions : version_flaw (symbol_count b) b ≡ None
  pub names : name_flaw b ≡ None

pub unflawed_parts : (b : List ℕ) → first_flaw b ≡ None → AreUnflawed b
unfolding first_flaw
unflawed_parts b e =
    let first = none_first (header_flaw b) (dynamic_flaw b ∷ symbol_flaw b ∷ version_flaw (symbol_count b) b ∷ name_flaw b ∷ []) e in
    let second = none_first (dynamic_flaw b) (symbol_flaw b ∷ version_flaw (symbol_count b) b ∷ name_flaw b ∷ []) first.1 in
    let third = none_first (symbol_flaw b) (version_flaw (symbol_count b) b ∷ name_flaw b ∷ []) second.1 in
    let fourth = none_first (version_flaw (symbol_count b) b) (name_flaw b ∷ []) third.1 in
    let fifth = none_first (name_flaw b) [] fourth.1 in
    record { headers = first.0; dynamic = second.0; symbols = third.0; versions = fourth.0; names = fifth.0 }

-- its dynamic table
pub record HasTable (b : List ℕ) : Type 0 where
  pub segment : Segment
  pub found : find is_dynamic (headers b) ≡ Some segment
  pub two : two_dynamic (headers b) ≡ None
  pub placed : misplaced (headers b) segment ≡ None
  pub ended : no_end (dynamic_table b) ≡ None
  pub single : entry_flaw [] (dynamic_entries b) ≡ None
  pub tags : missing_flaw (dynamic_entries b) ≡ None
  pub strings : strings_flaw b (headers b) (dynamic_entries b) ≡ None

place_parts : (segments : List Segment) (s : Segment) → place_flaw segments s ≡ None → (two_dynamic segments ≡ None) × (misplaced segments s ≡ None)
unfolding place_flaw
place_parts segments s e =
    let first = none_first (two_dynamic segments) (misplaced segments s ∷ []) e in
    let second = none_first (misplaced segments s) [] first.1 in
    (first.0, second.0)

tags_parts : (entries : List Entry) → tags_flaw entries ≡ None → (entry_flaw [] entries ≡ None) × (missing_flaw entries ≡ None)
unfolding tags_flaw
tags_parts entries e =
    let first = none_first (entry_flaw [] entries) (missing_flaw entries ∷ []) e in
    let second = none_first (missing_flaw entries) [] first.1 in
    (first.0, second.0)

pub has_table : (b : List ℕ) → dynamic_flaw b ≡ None → HasTable b
unfolding dynamic_flaw table_flaw dynamic_entries
has_table b e =
    let first = none_first (segment_flaw_by (headers b) (find is_dynamic (headers b))) (table_flaw b (headers b) (dynamic_table b) ∷ []) e in
    let second = none_first (table_flaw b (headers b) (dynamic_table b)) [] first.1 in
    let third = none_first (no_end (dynamic_table b)) (tags_flaw (before_first is_end (dynamic_table b)) ∷ strings_flaw b (headers b) (before_first is_end (dynamic_table b)) ∷ []) second.0 in
    let fourth = none_first (tags_flaw (before_first is_end (dynamic_table b))) (strings_flaw b (headers b) (before_first is_end (dynamic_table b)) ∷ []) third.1 in
    let fifth = none_first (strings_flaw b (headers b) (before_first is_end (dynamic_table b))) [] fourth.1 in
    let tags = tags_parts (before_first is_end (dynamic_table b)) fourth.0 in
    go (find is_dynamic (headers b)) refl first.0 third.0 tags.0 tags.1 fifth.0
  where
    go : (o : Option Segment) → find is_dynamic (headers b) ≡ o → segment_flaw_by (headers b) o ≡ None → no_end (dynamic_table b) ≡ None → entry_flaw [] (before_first is_end (dynamic_table b)) ≡ None → missing_flaw (before_first is_end (dynamic_table b)) ≡ None → strings_flaw b (headers b) (before_first is_end (dynamic_table b)) ≡ None → HasTable b
    go None f p e s t w = absurd (cc)
    go (Some d) f p e s t w = let place = place_parts (headers b) d p in record { segment = d; found = f; two = place.0; placed = place.1; ended = e; single = s; tags = t; strings = w }

pub room_there : (segments : List Segment) (s : Segment) → misplaced segments s ≡ None → 16 ≤ s.filesz
room_there segments s e = go (nat_lt s.filesz 16) refl (not (begins_at s.offset (range_in segments s.vaddr s.filesz))) e
  where
    go : (a : Bool) → nat_lt s.filesz 16 ≡ a → (b : Bool) → cond (a || b) (Some (flaw DYNAMIC_PLACE 0 0)) None ≡ None → 16 ≤ s.filesz
    go true k b e = absurd (cc)
    go false k b e = grind (arith, nat_tests)

-- its strings
pub record HasStrings (b : List ℕ) : Type 0 where
  pub range : ℕ × ℕ
  pub some : 0 < strings_size (dynamic_entries b)
  pub there : range_in (headers b) (strings_at (dynamic_entries b)) (strings_size (dynamic_entries b)) ≡ Some range
  pub ended : unended_strings b (headers b) (dynamic_entries b) ≡ None
  pub names : bad_name (dynamic_entries b) ≡ None

pub has_strings : (b : List ℕ) → strings_flaw b (headers b) (dynamic_entries b) ≡ None → HasStrings b
unfolding strings_flaw
has_strings b e =
    let first = none_first (no_strings (headers b) (dynamic_entries b)) (unended_strings b (headers b) (dynamic_entries b) ∷ bad_name (dynamic_entries b) ∷ []) e in
    let second = none_first (unended_strings b (headers b) (dynamic_entries b)) (bad_name (dynamic_entries b) ∷ []) first.1 in
    let third = none_first (bad_name (dynamic_entries b)) [] second.1 in
    go (strings_size (dynamic_entries b) == 0) refl (range_in (headers b) (strings_at (dynamic_entries b)) (strings_size (dynamic_entries b))) refl first.0 second.0 third.0
  where
    go : (z : Bool) → (strings_size (dynamic_entries b) == 0) ≡ z → (o : Option (ℕ × ℕ)) → range_in (headers b) (strings_at (dynamic_entries b)) (strings_size (dynamic_entries b)) ≡ o → some_where (z || not (is_some o)) (flaw STRINGS_RANGE 0 0) ≡ None → unended_strings b (headers b) (dynamic_entries b) ≡ None → bad_name (dynamic_entries b) ≡ None → HasStrings b
    go true k o r e u n = absurd (cc)
    go false k None r e u n = absurd (cc)
    go false k (Some range) r e u n = record { range = range; some = grind (arith, nat_tests); there = r; ended = u; names = n }

-- the path of the interpreter lies in the file
pub path_within : (b : List ℕ) (s : Segment) → header_flaw b ≡ None → find is_interp (headers b) ≡ Some s → file_end s ≤ length b
path_within b s fine found =
    let passes : is_interp s ≡ true = find_passes is_interp (headers b) s found in
    let good : has_bad_range (length b) s ≡ false = find_all is_interp (has_bad_range (length b)) (headers b) s (sound_file b fine).mappable found in
    grind (arith, nat_tests)

pub table_within : (b : List ℕ) (s : Segment) → header_flaw b ≡ None → find is_dynamic (headers b) ≡ Some s → file_end s ≤ length b
table_within b s fine found =
    let passes : is_dynamic s ≡ true = find_passes is_dynamic (headers b) s found in
    let good : has_bad_range (length b) s ≡ false = find_all is_dynamic (has_bad_range (length b)) (headers b) s (sound_file b fine).mappable found in
    grind (arith, nat_tests)

-- its names
pub record HasNames (b : List ℕ) : Type 0 where
  pub files : bad_version_file b ≡ None
  pub path : bad_interp b ≡ None

pub has_names : (b : List ℕ) → name_flaw b ≡ None → HasNames b
unfolding name_flaw
has_names b e =
    let first = none_first (bad_text_of b DT_NEEDED) (bad_text_of b DT_SONAME ∷ bad_text_of b DT_RPATH ∷ bad_text_of b DT_RUNPATH ∷ bad_version_file b ∷ bad_interp b ∷ []) e in
    let second = none_first (bad_text_of b DT_SONAME) (bad_text_of b DT_RPATH ∷ bad_text_of b DT_RUNPATH ∷ bad_version_file b ∷ bad_interp b ∷ []) first.1 in
    let third = none_first (bad_text_of b DT_RPATH) (bad_text_of b DT_RUNPATH ∷ bad_version_file b ∷ bad_interp b ∷ []) second.1 in
    let fourth = none_first (bad_text_of b DT_RUNPATH) (bad_version_file b ∷ bad_interp b ∷ []) third.1 in
    let fifth = none_first (bad_version_file b) (bad_interp b ∷ []) fourth.1 in
    let sixth = none_first (bad_interp b) [] fifth.1 in
    record { files = fifth.0; path = sixth.0 }
