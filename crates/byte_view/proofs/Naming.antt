-- The flaws of headers and dynamic tables have names.
use Rattle.std.proofs.Common.{ℕ, Bool, true, false, List, [], ◌∷◌, ◌++◌, Option, None, Some, length, refl}
use Rattle.std.specs.Prelude.{IsSome}
use Rattle.std.specs.List.{before_first, find}
use Rattle.answers.specs.First.{first_some, some_where}
use Rattle.byte_view.specs.Checks.{flaw, flaw_at}
use Rattle.byte_view.specs.Dynamic.{dynamic_table, is_end}
use Rattle.byte_view.specs.DynamicFlaws.{bad_name, dynamic_flaw, entry_flaw, is_refused, is_repeated, misplaced, missing_beside, missing_flaw, missing_tag, no_end, no_strings, place_flaw, segment_flaw_by, strings_flaw, table_flaw, tags_flaw, two_dynamic, unended_strings}
use Rattle.byte_view.specs.FlawNames.{IsNamedFlaw, flaw_name}
use Rattle.byte_view.specs.HeaderFlaws.{bad_range, falling, header_flaw, ident_flaw, no_load, not_elf, overlapping, segment_flaw, short_header, short_headers, too_big, word_flaw, wrong_class, wrong_entry_size, wrong_header_size, wrong_ident_version, wrong_kind, wrong_machine, wrong_number, wrong_order, wrong_version}
use Rattle.byte_view.specs.Headers.{headers, is_dynamic}
use Rattle.byte_view.specs.declared.constants.TheConstants.{DT_STRSZ, DT_STRTAB, DT_SYMENT, DT_SYMTAB, DT_VERDEF, DT_VERDEFNUM, DT_VERNEED, DT_VERNEEDNUM}
use Rattle.byte_view.specs.declared.dynamic.Entry.{Entry}
use Rattle.byte_view.specs.declared.flaws.Flaw.{Flaw}
use Rattle.byte_view.specs.declared.flaws.TheConstants.{REPEATED, TAG_REFUSED}
use Rattle.byte_view.specs.declared.segments.Segment.{Segment}

-- of several checks whose flaws have names, the first flaw has one
abbrev pub AreNamedFlaws : List (Option Flaw) → Type 0
AreNamedFlaws [] = Unit {0}
AreNamedFlaws (x ∷ more) = IsNamedFlaw x × AreNamedFlaws more

pub named_first : (checks : List (Option Flaw)) → AreNamedFlaws checks → IsNamedFlaw (first_some checks)
named_first [] all = tt
named_first (None ∷ more) all = named_first more all.1
named_first (Some f ∷ more) all = all.0

pub named_where : (b : Bool) (f : Flaw) → IsSome (flaw_name f.code) → IsNamedFlaw (some_where b f)
named_where true f h = h
named_where false f h = tt

pub named_at : (code : ℕ) (o : Option ℕ) → IsSome (flaw_name code) → IsNamedFlaw (flaw_at code o)
named_at code None h = tt
named_at code (Some i) h = h

ident_named : (file : List ℕ) → IsNamedFlaw (ident_flaw file)
unfolding ident_flaw
ident_named file =
    named_first (too_big file ∷ not_elf file ∷ short_header file ∷ wrong_class file ∷ wrong_order file ∷ wrong_ident_version file ∷ wrong_version file ∷ [])
    (named_where _ _ refl, (named_where _ _ refl, (named_where _ _ refl, (named_where _ _ refl, (named_where _ _ refl, (named_where _ _ refl, (named_where _ _ refl, tt)))))))

word_named : (file : List ℕ) → IsNamedFlaw (word_flaw file)
unfolding word_flaw
word_named file =
    named_first (wrong_machine file ∷ wrong_kind file ∷ wrong_header_size file ∷ wrong_entry_size file ∷ wrong_number file ∷ short_headers file ∷ [])
    (named_where _ _ refl, (named_where _ _ refl, (named_where _ _ refl, (named_where _ _ refl, (named_where _ _ refl, (named_where _ _ refl, tt))))))

segment_named : (len : ℕ) (segments : List Segment) → IsNamedFlaw (segment_flaw len segments)
unfolding segment_flaw
segment_named len segments =
    named_first (bad_range len segments ∷ no_load segments ∷ falling segments ∷ overlapping segments ∷ [])
    (named_at _ _ refl, (named_where _ _ refl, (named_at _ _ refl, (named_at _ _ refl, tt))))

pub header_named : (file : List ℕ) → IsNamedFlaw (header_flaw file)
unfolding header_flaw
header_named file =
    named_first (ident_flaw file ∷ word_flaw file ∷ segment_flaw (length file) (headers file) ∷ [])
    (ident_named file, (word_named file, (segment_named (length file) (headers file), tt)))

entry_named : (before entries : List Entry) → IsNamedFlaw (entry_flaw before entries)
unfolding entry_flaw
entry_named before [] = tt
entry_named before (e ∷ rest) =
    named_first (some_where (is_refused e) (flaw TAG_REFUSED e.tag 0) ∷ some_where (is_repeated before e) (flaw REPEATED e.tag 0) ∷ entry_flaw (before ++ e ∷ []) rest ∷ [])
    (named_where _ _ refl, (named_where _ _ refl, (entry_named (before ++ e ∷ []) rest, tt)))

missing_named : (entries : List Entry) → IsNamedFlaw (missing_flaw entries)
unfolding missing_flaw
missing_named entries =
    named_first (missing_tag DT_STRTAB entries ∷ missing_tag DT_SYMTAB entries ∷ missing_tag DT_STRSZ entries ∷ missing_tag DT_SYMENT entries ∷ missing_beside DT_VERDEF DT_VERDEFNUM entries ∷ missing_beside DT_VERNEED DT_VERNEEDNUM entries ∷ [])
    (named_where _ _ refl, (named_where _ _ refl, (named_where _ _ refl, (named_where _ _ refl, (named_where _ _ refl, (named_where _ _ refl, tt))))))

place_named : (segments : List Segment) (s : Segment) → IsNamedFlaw (place_flaw segments s)
unfolding place_flaw
place_named segments s =
    named_first (two_dynamic segments ∷ misplaced segments s ∷ []) (named_at _ _ refl, (named_where _ _ refl, tt))

tags_named : (entries : List Entry) → IsNamedFlaw (tags_flaw entries)
unfolding tags_flaw
tags_named entries =
    named_first (entry_flaw [] entries ∷ missing_flaw entries ∷ []) (entry_named [] entries, (missing_named entries, tt))

strings_named : (file : List ℕ) (segments : List Segment) (entries : List Entry) → IsNamedFlaw (strings_flaw file segments entries)
unfolding strings_flaw
strings_named file segments entries =
    named_first (no_strings segments entries ∷ unended_strings file segments entries ∷ bad_name entries ∷ [])
    (named_where _ _ refl, (named_where _ _ refl, (named_at _ _ refl, tt)))

table_named : (file : List ℕ) (segments : List Segment) (table : List Entry) → IsNamedFlaw (table_flaw file segments table)
unfolding table_flaw
table_named file segments table =
    named_first (no_end table ∷ tags_flaw (before_first is_end table) ∷ strings_flaw file segments (before_first is_end table) ∷ [])
    (named_where _ _ refl, (tags_named (before_first is_end table), (strings_named file segments (before_first is_end table), tt)))

found_named : (segments : List Segment) (found : Option Segment) → IsNamedFlaw (segment_flaw_by segments found)
found_named segments None = refl
found_named segments (Some s) = place_named segments s

pub dynamic_named : (file : List ℕ) → IsNamedFlaw (dynamic_flaw file)
unfolding dynamic_flaw
dynamic_named file =
    named_first (segment_flaw_by (headers file) (find is_dynamic (headers file)) ∷ table_flaw file (headers file) (dynamic_table file) ∷ [])
    (found_named (headers file) (find is_dynamic (headers file)), (table_named file (headers file) (dynamic_table file), tt))
