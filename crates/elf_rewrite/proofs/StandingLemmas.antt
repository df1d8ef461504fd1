-- The dynamic table stands where it is written, and its entries fit their words
use Rattle.std.proofs.Common.{◌≡◌, ℕ, suc, ◌+◌, ◌-◌, ◌*◌, ◌^◌, ◌<◌, ◌≤◌, ◌==◌, Bool, true, false, cond, List, [], ◌∷◌, ◌++◌, Option, Some, None, length, take, drop, refl, ap, sym, ◌∙◌, arith}
use Rattle.std.specs.Prelude.{replicate}
use Rattle.std.specs.List.{All, find}
use Rattle.std.specs.Option.{option_map, unwrap_or}
use Rattle.std.specs.Str.{bytes_eq}
use Rattle.std.proofs.lemmas.Bool.Decides.{nat_tests}
use Rattle.std.proofs.lemmas.List.{take-append-drop}
use Rattle.std.proofs.lemmas.List.Elements.{All-append, All-cons, All-head, All-nil, All-replicate, All-tail, All-weaker}
use Rattle.byte_view.specs.Dynamic.{capacity_of, dynamic_entries, dynamic_table, strings_at, value_of, tagged, entries_bytes}
use Rattle.byte_view.specs.DynamicFlaws.{place_flaw, segment_flaw_by}
use Rattle.byte_view.specs.HeaderFlaws.{header_flaw}
use Rattle.byte_view.specs.Headers.{headers, is_dynamic}
use Rattle.byte_view.specs.declared.constants.TheConstants.{DT_NULL, DT_RUNPATH, DT_SONAME, DT_STRTAB}
use Rattle.byte_view.specs.declared.dynamic.Entry.{Entry}
use Rattle.byte_view.specs.declared.segments.Segment.{Segment}
use Rattle.dyn_table.specs.Table.{entry_in, table_in}
use Rattle.dyn_table.proofs.Placed.{table_found}
use Rattle.load_model.specs.Escaping.{AreBytes}
use Rattle.load_model.specs.VersionTables.{dynamic_value, text_of}
use Rattle.strtab_grow.specs.declared.texts.TheConstants.{TABLE_LIMIT}
use Rattle.elf_rewrite.specs.NewTable.{entries_in, grown_by, name_place, need_places, need_values, new_place, new_size, new_strings_at, old_size, place_instead, text_places}
use Rattle.elf_rewrite.specs.Patched.{end_of, patched, written}
use Rattle.elf_rewrite.specs.Rewriting.{padded_entries}
use Rattle.elf_rewrite.specs.declared.change.Change.{Change}
use Rattle.elf_rewrite.specs.declared.patch.Patch.{Patch}
use Rattle.elf_rewrite.proofs.Fields.{IsShort, entries_read}
use Rattle.elf_rewrite.proofs.FileSteps.{place_small}
use Rattle.elf_rewrite.proofs.Patched.{patched_long, reads_back}
use Rattle.elf_rewrite.proofs.ShortLemmas.{ArePlacesShort, entries_short, new_short}
use Rattle.elf_rewrite.proofs.TextLemmas.{entries_are, none_bad, value_low, values_low}
use Rattle.elf_rewrite.proofs.UnflawedLemmas.{HasTable, has_strings}

-- a table whose entries stand in the file
pub table_is : (c rest : List ℕ) (s : Segment) (xs : List Entry) → header_flaw c ≡ None → find is_dynamic (headers c) ≡ Some s → place_flaw (headers c) s ≡ None → capacity_of s ≡ length xs → All (λ e. IsShort e) xs → drop s.offset c ≡ entries_bytes xs ++ rest → dynamic_table c ≡ xs
unfolding table_in entry_in
table_is c rest s xs fine found placed size short there =
    let unflawed : segment_flaw_by (headers c) (find is_dynamic (headers c)) ≡ None = rw found placed in
    let same : table_in c s ≡ dynamic_table c = table_found (headers c) c s (record { same = refl; unflawed = fine }) found unflawed in
    let start : s.offset + 16 * 0 ≡ s.offset = omega arith in
    let read = entries_read c rest s.offset 0 xs short (rw start there) in
    sym same ∙ rw size read

-- entries with zeros up to a capacity have an end
pub padded_end : (capacity : ℕ) (xs : List Entry) → length xs + 1 ≤ capacity → padded_entries capacity xs ≡ xs ++ tagged DT_NULL 0 ∷ replicate (capacity - (length xs + 1)) (tagged DT_NULL 0)
padded_end capacity xs h =
    let more : capacity - length xs ≡ suc (capacity - (length xs + 1)) = omega arith in
    rw more refl

pub end_short : IsShort (tagged DT_NULL 0)
end_short = record { tag = omega arith; value = omega arith }

pub ended_short : (n : ℕ) (xs : List Entry) → All (λ e. IsShort e) xs → All (λ e. IsShort e) (xs ++ tagged DT_NULL 0 ∷ replicate n (tagged DT_NULL 0))
ended_short n xs all = All-append (λ e. IsShort e) xs (tagged DT_NULL 0 ∷ replicate n (tagged DT_NULL 0)) all (All-cons (λ e. IsShort e) (tagged DT_NULL 0) (replicate n (tagged DT_NULL 0)) end_short (All-replicate (λ e. IsShort e) n (tagged DT_NULL 0) end_short))

-- what is written last reads back
pub patched-append : (b : List ℕ) (xs ys : List Patch) → patched b (xs ++ ys) ≡ patched (patched b xs) ys
patched-append b [] ys = refl
patched-append b (x ∷ xs) ys = patched-append (written b x) xs ys

pub split_all : {X : Type 0} (P : X → Type 0) (xs ys : List X) → All P (xs ++ ys) → (All P xs) × (All P ys)
split_all P [] ys all = (All-nil P, all)
split_all P (x ∷ xs) ys all =
    let rest = split_all P xs ys (All-tail P x (xs ++ ys) all) in
    (All-cons P x xs (All-head P x (xs ++ ys) all) rest.0, rest.1)

pub last_reads : (b rest : List ℕ) (pre : List Patch) (p : Patch) → All (λ q. end_of q ≤ length b) (pre ++ p ∷ []) → drop p.at (patched b (pre ++ p ∷ []) ++ rest) ≡ p.bytes ++ drop (length p.bytes) (drop p.at (patched b (pre ++ p ∷ []) ++ rest))
last_reads b rest pre p fit =
    let parts = split_all (λ q. end_of q ≤ length b) pre (p ∷ []) fit in
    let long : length (patched b pre) ≡ length b = patched_long b pre parts.0 in
    let end : end_of p ≤ length b = All-head (λ q. end_of q ≤ length b) p [] parts.1 in
    let there : take (length p.bytes) (drop p.at (patched (patched b pre) (p ∷ []) ++ rest)) ≡ p.bytes = reads_back (patched b pre) rest p [] (omega (arith, long)) (All-nil (λ q. end_of q ≤ length (patched b pre))) refl in
    let whole : take (length p.bytes) (drop p.at (patched b (pre ++ p ∷ []) ++ rest)) ≡ p.bytes = rw (patched-append b pre (p ∷ [])) there in
    sym (take-append-drop (length p.bytes) (drop p.at (patched b (pre ++ p ∷ []) ++ rest))) ∙ ap (λ l. l ++ drop (length p.bytes) (drop p.at (patched b (pre ++ p ∷ []) ++ rest))) whole

-- the places of names are small
instead_small : (b : List ℕ) (change : Change) (at : ℕ) (t : List ℕ) → at < old_size b → place_instead b (grown_by b change) at t ≤ new_size b change
instead_small b change at t low = go (bytes_eq (text_of b at) t) (place_small (grown_by b change) t)
  where
    go : (s : Bool) → new_place (grown_by b change) t ≤ new_size b change → cond s at (new_place (grown_by b change) t) ≤ new_size b change
    go true h = omega arith
    go false h = h

needs_small : (b : List ℕ) (change : Change) (values : List ℕ) (news : List (List ℕ)) → All (λ at. at < old_size b) values → All (λ at. at ≤ new_size b change) (need_places b (grown_by b change) values news)
needs_small b change [] news all = All-nil (λ at. at ≤ new_size b change)
needs_small b change (v ∷ values) [] all = All-nil (λ at. at ≤ new_size b change)
needs_small b change (v ∷ values) (n ∷ news) all =
    All-cons (λ at. at ≤ new_size b change) (place_instead b (grown_by b change) v n) (need_places b (grown_by b change) values news)
    (instead_small b change v n (All-head (λ at. at < old_size b) v values all))
    (needs_small b change values news (All-tail (λ at. at < old_size b) v values all))

some_same : (v w : ℕ) → Some v ≡ Some w → v ≡ w
some_same v w e = cc

name_small : (b : List ℕ) (change : Change) (old : Option ℕ) (new : Option (List ℕ)) (v : ℕ) → ((w : ℕ) → old ≡ Some w → w < old_size b) → name_place b (grown_by b change) old new ≡ Some v → v ≤ new_size b change
name_small b change old None v low e = absurd (cc)
name_small b change None (Some t) v low e = let same = some_same (new_place (grown_by b change) t) v e in omega (arith, place_small (grown_by b change) t)
name_small b change (Some at) (Some t) v low e = let same = some_same (place_instead b (grown_by b change) at t) v e in omega (arith, instead_small b change at t (low at refl))

pub places_short : (b : List ℕ) (change : Change) → HasTable b → new_size b change < TABLE_LIMIT → new_strings_at b change < 256 ^ 8 → ArePlacesShort (text_places b change)
unfolding text_places
places_short b change t size at =
    let bad = none_bad (dynamic_entries b) (has_strings b t.strings).names in
    record {
      needs = All-weaker (λ n. n ≤ new_size b change) (λ n. n < 256 ^ 8) (λ n h. omega arith) (need_places b (grown_by b change) (need_values (dynamic_entries b)) change.needs) (needs_small b change (need_values (dynamic_entries b)) change.needs (values_low (old_size b) (dynamic_entries b) bad));
      soname = λ v e. let h = name_small b change (dynamic_value b DT_SONAME) change.soname v (λ w g. value_low (old_size b) DT_SONAME (dynamic_entries b) w (λ x k. grind (arith, nat_tests)) bad g) e in omega arith;
      runpath = λ v e. let h = name_small b change (dynamic_value b DT_RUNPATH) change.runpath v (λ w g. value_low (old_size b) DT_RUNPATH (dynamic_entries b) w (λ x k. grind (arith, nat_tests)) bad g) e in omega arith;
      strings_at = at;
      strings_size = omega arith;
    }

old_placed : (b : List ℕ) (t : HasTable b) → segment_flaw_by (headers b) (find is_dynamic (headers b)) ≡ None
unfolding place_flaw
old_placed b t = rw (t.found, t.two, t.placed) refl

pub old_short : (b : List ℕ) → AreBytes b → header_flaw b ≡ None → HasTable b → All (λ e. IsShort e) (dynamic_entries b)
old_short b bytes fine t = entries_short b t.segment bytes fine t.found (old_placed b t)

pub all_short : (b : List ℕ) (change : Change) → AreBytes b → header_flaw b ≡ None → HasTable b → new_size b change < TABLE_LIMIT → new_strings_at b change < 256 ^ 8 → All (λ e. IsShort e) (entries_in b change)
all_short b change bytes fine t size at =
    rw (entries_are b change) (new_short (text_places b change) (dynamic_entries b) (places_short b change t size at) (old_short b bytes fine t))

value_short : (tag : ℕ) (xs : List Entry) → All (λ e. IsShort e) xs → unwrap_or (value_of tag xs) 0 < 256 ^ 8
value_short tag [] all = omega arith
value_short tag (x ∷ xs) all = go (x.tag == tag) (value_short tag xs (All-tail (λ e. IsShort e) x xs all))
  where
    go : (b : Bool) → unwrap_or (value_of tag xs) 0 < 256 ^ 8 → unwrap_or (option_map (λ e. e.value) (cond b (Some x) (find (λ e. e.tag == tag) xs))) 0 < 256 ^ 8
    go true h = (All-head (λ e. IsShort e) x xs all).value
    go false h = h

pub old_strings_short : (b : List ℕ) → AreBytes b → header_flaw b ≡ None → HasTable b → strings_at (dynamic_entries b) < 256 ^ 8
old_strings_short b bytes fine t = value_short DT_STRTAB (dynamic_entries b) (old_short b bytes fine t)
