-- The string table of a file whose dynamic table has no flaw stands in the file.
use Rattle.std.proofs.Common.{◌≡◌, ℕ, not, ◌||◌, ◌==◌, Bool, true, false, List, [], ◌∷◌, Option, Some, None, is_some}
use Rattle.std.specs.List.{before_first, find}
use Rattle.answers.specs.First.{some_where}
use Rattle.byte_view.specs.Checks.{flaw}
use Rattle.byte_view.specs.Dynamic.{dynamic_entries, dynamic_table, is_end, strings_at, strings_of, strings_size}
use Rattle.byte_view.specs.DynamicFlaws.{bad_name, dynamic_flaw, no_end, no_strings, segment_flaw_by, strings_flaw, table_flaw, tags_flaw, unended_strings}
use Rattle.byte_view.specs.Headers.{headers, is_dynamic}
use Rattle.byte_view.specs.Memory.{range_in}
use Rattle.byte_view.specs.Sound.{IsReadFrom}
use Rattle.byte_view.specs.declared.flaws.TheConstants.{STRINGS_RANGE}
use Rattle.byte_view.specs.declared.segments.Segment.{Segment}
use Rattle.byte_view.proofs.Loads.{none_first}
use Rattle.dyn_table.specs.Table.{IsTableOf, Table}
use Rattle.dyn_table.proofs.StringTable.{AreStrings, strings_there}
use Rattle.sym_tables.specs.ReadSymbols.{AreStringsAt}

strings_flawless : (file : List ℕ) → dynamic_flaw file ≡ None → no_strings (headers file) (dynamic_entries file) ≡ None
unfolding dynamic_flaw dynamic_entries table_flaw strings_flaw
strings_flawless file e =
    let segment = none_first (segment_flaw_by (headers file) (find is_dynamic (headers file))) (table_flaw file (headers file) (dynamic_table file) ∷ []) e in
    let table = none_first (table_flaw file (headers file) (dynamic_table file)) [] segment.1 in
    let end = none_first (no_end (dynamic_table file)) (tags_flaw (before_first is_end (dynamic_table file)) ∷ strings_flaw file (headers file) (before_first is_end (dynamic_table file)) ∷ []) table.0 in
    let tags = none_first (tags_flaw (before_first is_end (dynamic_table file))) (strings_flaw file (headers file) (before_first is_end (dynamic_table file)) ∷ []) end.1 in
    let strings = none_first (strings_flaw file (headers file) (before_first is_end (dynamic_table file))) [] tags.1 in
    (none_first (no_strings (headers file) (before_first is_end (dynamic_table file))) (unended_strings file (headers file) (before_first is_end (dynamic_table file)) ∷ bad_name (before_first is_end (dynamic_table file)) ∷ []) strings.0).0

lost_flawed : (a : Bool) (o : Option (ℕ × ℕ)) → o ≡ None → some_where (a || not (is_some o)) (flaw STRINGS_RANGE 0 0) ≡ None → ⊥
lost_flawed true o n e = cc
lost_flawed false None n e = cc
lost_flawed false (Some range) n e = cc

pub no_range_lost : (segments : List Segment) (file : List ℕ) (table : Table) → IsReadFrom segments file → IsTableOf table file → range_in segments (strings_at table.entries) (strings_size table.entries) ≡ None → ⊥
no_range_lost segments file table r is e =
    let here : range_in (headers file) (strings_at (dynamic_entries file)) (strings_size (dynamic_entries file)) ≡ None = rw (r.same, is.entries) at e in
    lost_flawed (strings_size (dynamic_entries file) == 0) (range_in (headers file) (strings_at (dynamic_entries file)) (strings_size (dynamic_entries file))) here (strings_flawless file is.unflawed)

pub strings_found : (segments : List Segment) (file : List ℕ) (table : Table) (range : ℕ × ℕ) → IsReadFrom segments file → IsTableOf table file → range_in segments (strings_at table.entries) (strings_size table.entries) ≡ Some range → AreStringsAt range file
strings_found segments file table range r is e =
    let here : range_in segments (strings_at (dynamic_entries file)) (strings_size (dynamic_entries file)) ≡ Some range = rw is.entries at e in
    let s : AreStrings file (strings_of file (headers file) (dynamic_entries file)) range = strings_there segments file (dynamic_entries file) range r here in
    record { same = s.same; order = s.order; within = s.within }
