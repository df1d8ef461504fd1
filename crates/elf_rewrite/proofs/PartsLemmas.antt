-- A file that has the new table, the new strings and the new words at their places is remade
use Rattle.std.proofs.Common.{◌≡◌, ℕ, suc, ◌+◌, ◌-◌, ◌<◌, ◌==◌, Bool, true, false, not, List, [], ◌∷◌, ◌++◌, Some, None, length, take, drop, slice_index, refl, ap, sym, ◌∙◌, arith, append-nil, append_assoc, length-append}
use Rattle.std.specs.Prelude.{nat_le, slice_get}
use Rattle.std.specs.List.{before_first, find, list_any, position_or_len}
use Rattle.std.proofs.lemmas.Bool.Decides.{nat_tests}
use Rattle.answers.specs.First.{some_where}
use Rattle.byte_view.specs.Checks.{flaw}
use Rattle.byte_view.specs.Dynamic.{dynamic_entries, dynamic_table, is_end, strings_at, strings_of, strings_size, value_of, tagged}
use Rattle.byte_view.specs.DynamicFlaws.{bad_name, entry_flaw, has_tag, missing_beside, missing_flaw, missing_tag, place_flaw, strings_flaw}
use Rattle.byte_view.specs.HeaderFlaws.{header_flaw}
use Rattle.byte_view.specs.Headers.{headers, is_dynamic, is_interp}
use Rattle.byte_view.specs.Memory.{range_in}
use Rattle.byte_view.specs.Numbers.{number_at}
use Rattle.byte_view.specs.declared.constants.TheConstants.{DT_NULL, DT_STRSZ, DT_STRTAB, DT_SYMENT, DT_SYMTAB, DT_VERDEF, DT_VERDEFNUM, DT_VERNEED, DT_VERNEEDNUM}
use Rattle.byte_view.specs.declared.dynamic.Entry.{Entry}
use Rattle.byte_view.specs.declared.flaws.TheConstants.{MISSING_TAG}
use Rattle.byte_view.specs.declared.segments.Segment.{Segment}
use Rattle.byte_view.proofs.Loads.{none_first, sound_file}
use Rattle.byte_view.proofs.Ranges.{IsRead, range_read}
use Rattle.dyn_table.proofs.StringTable.{AreStrings, strings_there}
use Rattle.load_model.proofs.Machine.{slice_get-drop}
use Rattle.load_model.proofs.Places.{slice_get-take}
use Rattle.load_model.specs.VersionTables.{memory_number, verneed_count, verneed_place, vn_file}
use Rattle.strtab_grow.specs.Growth.{added, stored}
use Rattle.sym_tables.proofs.Backing.{word_there}
use Rattle.two_files.specs.Entries.{new_entries}
use Rattle.two_files.proofs.DynamicFine.{dynamic_fine, front_of, strings_fine}
use Rattle.two_files.proofs.Entries.{new_strings_at as table_at, new_strings_size as table_size}
use Rattle.two_files.proofs.EntryFlaws.{entries_fine, new_unended, tags_fine}
use Rattle.two_files.proofs.Strings.{last_zero, strings_long}
use Rattle.two_files.proofs.Names.{AreWanted, names_within}
use Rattle.elf_rewrite.specs.NewFile.{Fits}
use Rattle.elf_rewrite.specs.NewTable.{entries_in, grown_by, new_size, new_strings_at, old_size, text_places}
use Rattle.elf_rewrite.specs.NewTexts.{new_texts}
use Rattle.elf_rewrite.specs.Rewriting.{file_for}
use Rattle.elf_rewrite.specs.declared.change.Change.{Change}
use Rattle.elf_rewrite.proofs.RemadeLemmas.{IsRemade, needs_placed}
use Rattle.elf_rewrite.proofs.SectionLemmas.{KeepsOutside}
use Rattle.elf_rewrite.proofs.SpareLemmas.{IsOver}
use Rattle.elf_rewrite.proofs.TableLemmas.{HasHeaders, HasPlace, has_versions, placed_need}
use Rattle.elf_rewrite.proofs.TextLemmas.{HasGrown, ReadsNames, entries_are, file_value, names_read}
use Rattle.elf_rewrite.proofs.UnflawedLemmas.{HasStrings, HasTable, has_strings, has_table, unflawed_parts}
use Rattle.elf_rewrite.proofs.WrittenLemmas.{need_place}

pub record HasParts (b : List ℕ) (change : Change) (c : List ℕ) : Type 0 where
  pub over : IsOver b change c
  pub headers_are : HasHeaders b c
  pub segment : Segment
  pub found : find is_dynamic (headers c) ≡ Some segment
  pub placed : place_flaw (headers c) segment ≡ None
  pub rest : List Entry
  pub table : dynamic_table c ≡ entries_in b change ++ tagged DT_NULL 0 ∷ rest
  pub range : ℕ × ℕ
  pub there : range_in (headers c) (new_strings_at b change) (new_size b change) ≡ Some range
  pub strings : take (new_size b change) (drop range.0 c) ≡ strings_of b (headers b) (dynamic_entries b) ++ added (new_texts b change)
  pub interp : find is_interp (headers c) ≡ find is_interp (headers b)
  pub outside : KeepsOutside b c
  pub words : (k : ℕ) → k < verneed_count b → number_at 4 c (need_place b k + 4) ≡ file_value b (grown_by b change) (number_at 4 b (need_place b k + 4)) (file_for b change k)

-- each table has its strings and their size
tag_on : (tag : ℕ) (xs : List Entry) → missing_tag tag xs ≡ None → has_tag tag xs ≡ true
tag_on tag xs e = go (has_tag tag xs) e
  where
    go : (t : Bool) → some_where (not t) (flaw MISSING_TAG tag 0) ≡ None → t ≡ true
    go true e = refl
    go false e = absurd (cc)

strings_said : (xs : List Entry) → missing_flaw xs ≡ None → (has_tag DT_STRTAB xs ≡ true) × (has_tag DT_STRSZ xs ≡ true)
unfolding missing_flaw
strings_said xs e =
    let last = missing_tag DT_SYMENT xs ∷ missing_beside DT_VERDEF DT_VERDEFNUM xs ∷ missing_beside DT_VERNEED DT_VERNEEDNUM xs ∷ [] in
    let first = none_first (missing_tag DT_STRTAB xs) (missing_tag DT_SYMTAB xs ∷ missing_tag DT_STRSZ xs ∷ last) e in
    let second = none_first (missing_tag DT_SYMTAB xs) (missing_tag DT_STRSZ xs ∷ last) first.1 in
    let third = none_first (missing_tag DT_STRSZ xs) last second.1 in
    (tag_on DT_STRTAB xs first.0, tag_on DT_STRSZ xs third.0)

pub new_place_is : (b : List ℕ) (change : Change) → missing_flaw (dynamic_entries b) ≡ None → strings_at (entries_in b change) ≡ new_strings_at b change
unfolding text_places
new_place_is b change e =
    let at : value_of DT_STRTAB (new_entries (text_places b change) (dynamic_entries b)) ≡ Some (new_strings_at b change) = table_at (text_places b change) (dynamic_entries b) ∙ rw ((strings_said (dynamic_entries b) e).0) refl in
    rw (entries_are b change, at) refl

pub new_size_is : (b : List ℕ) (change : Change) → missing_flaw (dynamic_entries b) ≡ None → strings_size (entries_in b change) ≡ new_size b change
unfolding text_places
new_size_is b change e =
    let at : value_of DT_STRSZ (new_entries (text_places b change) (dynamic_entries b)) ≡ Some (new_size b change) = table_size (text_places b change) (dynamic_entries b) ∙ rw ((strings_said (dynamic_entries b) e).1) refl in
    rw (entries_are b change, at) refl

-- the entries are those before the end
entries_there : (b : List ℕ) (change : Change) (c : List ℕ) → HasParts b change c → list_any is_end (entries_in b change) ≡ false → dynamic_entries c ≡ entries_in b change
unfolding dynamic_entries
entries_there b change c p unended = rw p.table (front_of (entries_in b change) p.rest (tagged DT_NULL 0) unended refl)

old_unended : (b : List ℕ) → list_any is_end (dynamic_entries b) ≡ false
unfolding dynamic_entries
old_unended b = go (dynamic_table b)
  where
    go : (xs : List Entry) → list_any is_end (before_first is_end xs) ≡ false
    go [] = refl
    go (x ∷ xs) = step (is_end x) refl (go xs)
      where
        step : (t : Bool) → is_end x ≡ t → list_any is_end (before_first is_end xs) ≡ false → list_any is_end (before_first is_end (x ∷ xs)) ≡ false
        step true e on = rw e refl
        step false e on =
            let one : 1 + position_or_len is_end xs ≡ suc (position_or_len is_end xs) = omega arith in
            rw e (ap (λ k. list_any is_end (take k (x ∷ xs))) one ∙ rw e on)

-- the strings end with a zero
abbrev ends : List ℕ → Bool
ends [] = false
ends (x ∷ []) = x == 0
ends (x ∷ y ∷ more) = ends (y ∷ more)

ends_both : (xs ys : List ℕ) → ends ys ≡ true → ends (xs ++ ys) ≡ true
ends_both [] ys h = h
ends_both (x ∷ xs) ys h = step (xs ++ ys) (ends_both xs ys h)
  where
    step : (zs : List ℕ) → ends zs ≡ true → ends (x ∷ zs) ≡ true
    step [] h = absurd (cc)
    step (z ∷ zs) h = h

ends_grown : (s : List ℕ) (texts : List (List ℕ)) → ends s ≡ true → ends (s ++ added texts) ≡ true
ends_grown s [] h = rw (append-nil s) h
ends_grown s (t ∷ more) h =
    let here : ends (s ++ stored t) ≡ true = ends_both s (stored t) (ends_both t (0 ∷ []) refl) in
    rw (← append_assoc s (stored t) (added more)) (ends_grown (s ++ stored t) more here)

ends_by : (xs : List ℕ) → 0 < length xs → slice_index xs (length xs - 1) ≡ 0 → ends xs ≡ true
ends_by [] some h = absurd (omega arith)
ends_by (x ∷ []) some h = rw h refl
ends_by (x ∷ y ∷ more) some h =
    let next : length (x ∷ (y ∷ more)) - 1 ≡ suc (length (y ∷ more) - 1) = omega arith in
    let later : slice_index (y ∷ more) (length (y ∷ more) - 1) ≡ 0 = ap (λ n. slice_index (x ∷ (y ∷ more)) n) (sym next) ∙ h in
    ends_by (y ∷ more) (omega arith) later

ends_at : (xs : List ℕ) → ends xs ≡ true → slice_get xs (length xs - 1) ≡ Some 0
ends_at [] h = absurd (cc)
ends_at (x ∷ []) h = let zero_is : x ≡ 0 = grind (arith, nat_tests) in ap Some zero_is
ends_at (x ∷ y ∷ more) h =
    let next : length (x ∷ (y ∷ more)) - 1 ≡ suc (length (y ∷ more) - 1) = omega arith in
    ap (λ n. slice_get (x ∷ (y ∷ more)) n) next ∙ ends_at (y ∷ more) h

last_byte : (c s : List ℕ) (at n : ℕ) → take n (drop at c) ≡ s → ends s ≡ true → length s ≡ n → slice_get c (at + (n - 1)) ≡ Some 0
last_byte c s at n e h long =
    let last : slice_get s (length s - 1) ≡ Some 0 = ends_at s h in
    let there : slice_get (take n (drop at c)) (n - 1) ≡ Some 0 = rw (e, ← long) last in
    let found = slice_get-take n (drop at c) (n - 1) 0 there in
    sym (slice_get-drop at c (n - 1)) ∙ found.1

old_ends : (b : List ℕ) → HasStrings b → ends (strings_of b (headers b) (dynamic_entries b)) ≡ true
old_ends b s =
    let long : length (strings_of b (headers b) (dynamic_entries b)) ≡ strings_size (dynamic_entries b) = strings_long b (headers b) (dynamic_entries b) in
    let zero_end = last_zero b (headers b) (dynamic_entries b) s.some s.ended in
    ends_by (strings_of b (headers b) (dynamic_entries b)) (let some = s.some in omega arith) (rw long zero_end)

grown_there : (b : List ℕ) (change : Change) (c : List ℕ) → HasTable b → HasParts b change c → HasGrown b change c
grown_there b change c t p =
    let unended : list_any is_end (entries_in b change) ≡ false = rw (entries_are b change) (new_unended (text_places b change) (dynamic_entries b) (old_unended b)) in
    let entries : dynamic_entries c ≡ entries_in b change = entries_there b change c p unended in
    let size : strings_size (dynamic_entries c) ≡ new_size b change = rw entries (new_size_is b change t.tags) in
    let at : strings_at (dynamic_entries c) ≡ new_strings_at b change = rw entries (new_place_is b change t.tags) in
    let there : range_in (headers c) (strings_at (dynamic_entries c)) (strings_size (dynamic_entries c)) ≡ Some p.range = rw (at, size) p.there in
    let read : IsRead c (headers c) (new_strings_at b change) (new_size b change) p.range = range_read c (headers c) (new_strings_at b change) (new_size b change) p.range (sound_file c p.headers_are.fine) p.there in
    let s : AreStrings c (strings_of c (headers c) (dynamic_entries c)) p.range = strings_there (headers c) c (dynamic_entries c) p.range (record { same = refl; unflawed = p.headers_are.fine }) there in
    let long : p.range.1 - p.range.0 ≡ new_size b change = omega (arith, read.ends) in
    record { entries = entries; size = size; strings = sym s.same ∙ (ap (λ n. take n (drop p.range.0 c)) long ∙ p.strings) }

low_off : (size at : ℕ) → at < size → nat_le size at ≡ false
low_off size at h = grind (arith, nat_tests)

names_low : (b : List ℕ) (change : Change) (c : List ℕ) → missing_flaw (dynamic_entries b) ≡ None → ReadsNames b change c → AreWanted (λ n. nat_le (strings_size (new_entries (text_places b change) (dynamic_entries b))) n) (text_places b change)
names_low b change c tags n =
    let size : strings_size (new_entries (text_places b change) (dynamic_entries b)) ≡ new_size b change = rw (← entries_are b change) (new_size_is b change tags) in
    rw size (record {
      needs = λ k d h. low_off (new_size b change) _ (n.needs.all k d h).0;
      soname = λ v e. low_off (new_size b change) v (n.soname.fine v e).0;
      runpath = λ v e. low_off (new_size b change) v (n.runpath.fine v e).0;
    })

-- the word of a need
word_at : (f b : List ℕ) (k : ℕ) (r : ℕ × ℕ) → header_flaw f ≡ None → range_in (headers f) (verneed_place b k) 16 ≡ Some r → need_place b k ≡ r.0 → vn_file f (verneed_place b k) ≡ number_at 4 f (need_place b k + 4)
unfolding memory_number
word_at f b k r fine e from =
    word_there 4 f (headers f) (verneed_place b k) 16 4 r (range_read f (headers f) (verneed_place b k) 16 r (sound_file f fine) e) (omega arith)
    ∙ ap (λ n. number_at 4 f (n + 4)) (sym from)

pub remade : (b : List ℕ) (change : Change) (c : List ℕ) → Fits change b → HasParts b change c → IsRemade b change c
remade b change c fits p =
    let fine = unflawed_parts b p.over.unflawed in
    let t = has_table b fine.dynamic in
    let s = has_strings b t.strings in
    let g = grown_there b change c t p in
    let n = names_read b change c t.strings fits g in
    let named : bad_name (entries_in b change) ≡ None = rw (entries_are b change) (names_within (text_places b change) (dynamic_entries b) (names_low b change c t.tags n) (needs_placed b change fits)) in
    let at = new_place_is b change t.tags in
    let size = new_size_is b change t.tags in
    let unended : list_any is_end (entries_in b change) ≡ false = rw (entries_are b change) (new_unended (text_places b change) (dynamic_entries b) (old_unended b)) in
    let single : entry_flaw [] (entries_in b change) ≡ None = rw (entries_are b change) (entries_fine (text_places b change) (dynamic_entries b) t.single) in
    let tags : missing_flaw (entries_in b change) ≡ None = rw (entries_are b change) (tags_fine (text_places b change) (dynamic_entries b) t.tags) in
    let old_long : length (strings_of b (headers b) (dynamic_entries b)) ≡ old_size b = strings_long b (headers b) (dynamic_entries b) in
    let long : length (strings_of b (headers b) (dynamic_entries b) ++ added (new_texts b change)) ≡ new_size b change = length-append _ (added (new_texts b change)) ∙ ap (λ n. n + length (added (new_texts b change))) old_long in
    let byte : slice_get c (p.range.0 + (new_size b change - 1)) ≡ Some 0 = last_byte c _ p.range.0 (new_size b change) p.strings (ends_grown (strings_of b (headers b) (dynamic_entries b)) (new_texts b change) (old_ends b s)) long in
    let some : 0 < new_size b change = (let old = s.some in omega arith) in
    let strings : strings_flaw c (headers c) (entries_in b change) ≡ None = strings_fine c (entries_in b change) p.range p.headers_are.fine (rw size some) (rw (at, size) p.there) (rw size byte) named in
    let dynamic = dynamic_fine c p.segment (entries_in b change) p.rest (tagged DT_NULL 0) p.found p.placed p.table refl unended single tags strings in
    let v = has_versions b fine.versions in
    record {
      over = p.over;
      headers_are = p.headers_are;
      grown = g;
      dynamic = dynamic.0;
      interp = p.interp;
      outside = p.outside;
      files = λ k low. file_word b change c k p (placed_need b k fine.headers v low) fine.headers low;
    }
  where
    file_word : (b : List ℕ) (change : Change) (c : List ℕ) (k : ℕ) → HasParts b change c → HasPlace b k → header_flaw b ≡ None → k < verneed_count b → vn_file c (verneed_place b k) ≡ file_value b (grown_by b change) (vn_file b (verneed_place b k)) (file_for b change k)
    file_word b change c k p place fine low =
        let there : range_in (headers c) (verneed_place b k) 16 ≡ Some place.range = p.headers_are.ranges.keeps (verneed_place b k) 16 (rw place.there refl) ∙ place.there in
        let old : vn_file b (verneed_place b k) ≡ number_at 4 b (need_place b k + 4) = word_at b b k place.range fine place.there place.from in
        let new : vn_file c (verneed_place b k) ≡ number_at 4 c (need_place b k + 4) = word_at c b k place.range p.headers_are.fine there place.from in
        new ∙ (p.words k low ∙ ap (λ n. file_value b (grown_by b change) n (file_for b change k)) (sym old))
