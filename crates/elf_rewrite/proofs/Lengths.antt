-- How long the parts of a new file are
use Rattle.std.proofs.Common.{◌≡◌, ℕ, ◌+◌, ◌*◌, ◌≤◌, ◌==◌, Bool, true, false, cond, List, [], ◌∷◌, ◌++◌, Option, Some, None, length, map, drop, slice_index, refl, ap, arith, length-append}
use Rattle.std.specs.List.{before_first, find, list_any}
use Rattle.std.proofs.lemmas.List.{length-map, length-replicate, length-take}
use Rattle.std.proofs.lemmas.List.FromFn.{length-map-range_with_len}
use Rattle.byte_view.specs.Dynamic.{capacity_of, dynamic_capacity, dynamic_entries, dynamic_table, is_end, table_by, table_of, tagged, entries_bytes, entry_bytes}
use Rattle.byte_view.specs.DynamicFlaws.{has_tag}
use Rattle.byte_view.specs.Headers.{e_phnum, headers, is_dynamic, is_load}
use Rattle.byte_view.specs.declared.constants.TheConstants.{DT_NEEDED, DT_RUNPATH}
use Rattle.byte_view.specs.declared.dynamic.Entry.{Entry}
use Rattle.byte_view.specs.declared.segments.Segment.{Segment}
use Rattle.two_files.specs.Entries.{Places, added_path, new_entries, new_value, rewritten, where_some}
use Rattle.two_files.specs.NewHeaders.{add_load}
use Rattle.elf_rewrite.specs.Rewriting.{headers_by, moved_by, new_segment, padded_entries}
use Rattle.elf_rewrite.specs.Words.{header_bytes, table_bytes}
use Rattle.elf_rewrite.specs.declared.layout.Layout.{Layout}
use Rattle.elf_rewrite.proofs.Fields.{entry_long, header_long}

pub table_long : (xs : List Segment) → length (table_bytes xs) ≡ 56 * length xs
table_long [] = refl
table_long (s ∷ more) = omega (arith, length-append (header_bytes s) (table_bytes more), header_long s, table_long more)

pub entries_long : (xs : List Entry) → length (entries_bytes xs) ≡ 16 * length xs
entries_long [] = refl
entries_long (e ∷ more) = omega (arith, length-append (entry_bytes e) (entries_bytes more), entry_long e, entries_long more)

pub headers_count : (b : List ℕ) → length (headers b) ≡ e_phnum b
unfolding headers
headers_count b = length-map-range_with_len _ 0 _

-- no more than one header is added
add_most : (last : Segment) (xs : List Segment) → length (add_load last xs) ≤ length xs + 1
add_most last [] = omega arith
add_most last (s ∷ more) = go (list_any is_load more) (is_load s) (add_most last more)
  where
    go : (a b : Bool) → length (add_load last more) ≤ length more + 1 → length (cond a (s ∷ add_load last more) (cond b (s ∷ (last ∷ more)) (s ∷ add_load last more))) ≤ length (s ∷ more) + 1
    go true b on = omega arith
    go false true on = omega arith
    go false false on = omega arith

pub headers_most : (l : Layout) (xs : List Segment) → length (headers_by l xs) ≤ length xs + 1
headers_most l xs = omega (arith, add_most (new_segment l) (map (λ s. moved_by l s) xs), length-map xs (λ s. moved_by l s))

pub padded_long : (capacity : ℕ) (xs : List Entry) → length xs ≤ capacity → length (padded_entries capacity xs) ≡ capacity
padded_long capacity xs h = simp (length-append, length-replicate) (omega arith)

some_most : (tag : ℕ) (o : Option ℕ) → length (where_some tag o) ≤ 1
some_most tag None = omega arith
some_most tag (Some v) = omega arith

rewritten_most : (w : Places) (needs : List ℕ) (xs : List Entry) → length (rewritten w needs xs) ≤ length xs
unfolding rewritten
rewritten_most w needs [] = omega arith
rewritten_most w needs (e ∷ more) = go (e.tag == DT_NEEDED) (rewritten_most w (drop 1 needs) more) (rewritten_most w needs more)
  where
    go : (b : Bool) → length (rewritten w (drop 1 needs) more) ≤ length more → length (rewritten w needs more) ≤ length more → length (cond b (tagged e.tag (slice_index needs 0) ∷ rewritten w (drop 1 needs) more) (where_some e.tag (new_value w e) ++ rewritten w needs more)) ≤ length (e ∷ more)
    go true a b = omega arith
    go false a b = omega (arith, length-append (where_some e.tag (new_value w e)) (rewritten w needs more), some_most e.tag (new_value w e))

-- at most a run path is added
pub entries_most : (w : Places) (xs : List Entry) → length (new_entries w xs) ≤ length xs + 1
unfolding new_entries
entries_most w xs = omega (arith, length-append (rewritten w w.needs xs) (added_path w xs), rewritten_most w w.needs xs, path_most (has_tag DT_RUNPATH xs))
  where
    path_most : (b : Bool) → length (cond b [] (where_some DT_RUNPATH w.runpath)) ≤ 1
    path_most true = omega arith
    path_most false = some_most DT_RUNPATH w.runpath

-- none is added where no run path is wanted that was not there
pub entries_fewer : (w : Places) (xs : List Entry) → added_path w xs ≡ [] → length (new_entries w xs) ≤ length xs
unfolding new_entries
entries_fewer w xs e = omega (arith, length-append (rewritten w w.needs xs) (added_path w xs), rewritten_most w w.needs xs, ap length e)

pub front_most : (xs : List Entry) → length (before_first is_end xs) ≤ length xs
front_most xs = simp length-take (omega arith)

pub entries_within : (b : List ℕ) → length (dynamic_entries b) ≤ dynamic_capacity b
unfolding dynamic_entries
entries_within b = front_most (dynamic_table b)

pub capacity_by : (b : List ℕ) (s : Segment) (o : Option Segment) → o ≡ Some s → length (table_by b (headers b) o) ≡ capacity_of s
unfolding table_of
capacity_by b s o e = rw e (length-map-range_with_len _ 0 _)

pub capacity_is : (b : List ℕ) (s : Segment) → find is_dynamic (headers b) ≡ Some s → dynamic_capacity b ≡ capacity_of s
unfolding dynamic_table
capacity_is b s e = capacity_by b s (find is_dynamic (headers b)) e
