-- A file with the new headers, entries and strings has the old face with the new texts
use Rattle.std.proofs.Common.{◌≡◌, ℕ, zero, suc, ◌+◌, ◌<◌, ◌==◌, ◌&&◌, Bool, true, false, not, List, [], ◌∷◌, Option, Some, None, length, map, take, drop, refl, ap, sym, subst, ◌∙◌, arith}
use Rattle.std.specs.Prelude.{slice_get}
use Rattle.std.specs.List.{before_first, filter, find, range_with_len}
use Rattle.std.specs.Option.{option_map}
use Rattle.std.proofs.lemmas.Bool.Decides.{nat_tests}
use Rattle.std.proofs.lemmas.List.Elements.{All-weaker}
use Rattle.byte_view.specs.Checks.{flaw_at}
use Rattle.byte_view.specs.Dynamic.{dynamic_entries, string_at, strings_size}
use Rattle.byte_view.specs.DynamicFlaws.{dynamic_flaw, is_name}
use Rattle.byte_view.specs.Headers.{file_end, headers, is_interp}
use Rattle.byte_view.specs.declared.constants.TheConstants.{DT_NEEDED, DT_RPATH, DT_RUNPATH, DT_SONAME}
use Rattle.byte_view.specs.declared.dynamic.Entry.{Entry}
use Rattle.byte_view.specs.declared.flaws.TheConstants.{BAD_NAME}
use Rattle.byte_view.specs.declared.segments.Segment.{Segment}
use Rattle.load_model.specs.Faces.{bad_interp, bad_text_of, bad_version_file, interp_of, is_no_text, is_zero, name_flaw, names_no_text, path_in}
use Rattle.load_model.specs.SymbolFlaws.{symbol_count}
use Rattle.load_model.specs.VersionTables.{verneed_count, verneed_place, verneeds, vn_cnt, vn_file}
use Rattle.two_files.specs.Alike.{IsRewritten, KeepsTexts, KeepsVersions}
use Rattle.two_files.specs.Kept.{SameImage}
use Rattle.two_files.proofs.Face.{new_face}
use Rattle.two_files.proofs.Names.{AreWanted, names_texts}
use Rattle.two_files.proofs.Versions.{counts_kept, name_within, need_words, verneed_there}
use Rattle.elf_rewrite.specs.NewFile.{Fits, IsNewFile, wanted_of}
use Rattle.elf_rewrite.specs.NewTable.{grown_by, need_places, need_values, new_size, old_size, text_places}
use Rattle.elf_rewrite.specs.Ranges.{ranges_of, single_range}
use Rattle.elf_rewrite.specs.Rewriting.{file_for}
use Rattle.elf_rewrite.specs.declared.change.Change.{Change}
use Rattle.elf_rewrite.proofs.ApartLemmas.{interp_apart, none_in}
use Rattle.elf_rewrite.proofs.SectionLemmas.{KeepsOutside, same_header, sections_same}
use Rattle.elf_rewrite.proofs.SpareLemmas.{IsOver, SamePart, table_same}
use Rattle.elf_rewrite.proofs.TableLemmas.{HasHeaders, HasVersions, has_versions, keeps_symbols, keeps_versions, need_of}
use Rattle.elf_rewrite.proofs.TextLemmas.{HasGrown, ReadsFile, ReadsNames, entries_are, file_read, file_value, grown_tags, grown_texts, names_read, needs_are, rpath_is, runpath_is, soname_is}
use Rattle.elf_rewrite.proofs.TextSteps.{needs_counted}
use Rattle.elf_rewrite.proofs.UnflawedLemmas.{has_names, has_table, path_within, unflawed_parts}
use Rattle.elf_rewrite.proofs.WrittenLemmas.{counted_from, written_ranges}

-- a file with the new headers, entries, strings and words
pub record IsRemade (b : List ℕ) (change : Change) (c : List ℕ) : Type 0 where
  pub over : IsOver b change c
  pub headers_are : HasHeaders b c
  pub grown : HasGrown b change c
  pub dynamic : dynamic_flaw c ≡ None
  pub interp : find is_interp (headers c) ≡ find is_interp (headers b)
  pub outside : KeepsOutside b c
  pub files : (k : ℕ) → k < verneed_count b → vn_file c (verneed_place b k) ≡ file_value b (grown_by b change) (vn_file b (verneed_place b k)) (file_for b change k)

-- the path of the interpreter
path_listed : (b : List ℕ) (s : Segment) → find is_interp (headers b) ≡ Some s → slice_get (ranges_of b 3) 0 ≡ Some (s.offset, file_end s)
unfolding ranges_of single_range
path_listed b s e = rw e refl

path_same : (b : List ℕ) (change : Change) (c : List ℕ) (s : Segment) → IsOver b change c → find is_interp (headers b) ≡ Some s → path_in c s ≡ path_in b s
path_same b change c s o e =
    let part : SamePart b c s.offset s.filesz = table_same b change c (ranges_of b 3) 0 s.offset s.filesz o (interp_apart b o.apart) (path_listed b s e) (path_within b s (unflawed_parts b o.unflawed).headers e) in
    let start : s.offset + 0 ≡ s.offset = omega arith in
    let same : take s.filesz (drop (s.offset + 0) c) ≡ take s.filesz (drop (s.offset + 0) b) = part.parts 0 s.filesz (omega arith) in
    ap (before_first is_zero) (rw start at same)

interp_same : (b : List ℕ) (change : Change) (c : List ℕ) → IsOver b change c → find is_interp (headers c) ≡ find is_interp (headers b) → (interp_of c ≡ interp_of b) × (bad_interp b ≡ None → bad_interp c ≡ None)
unfolding interp_of
interp_same b change c o same = go (find is_interp (headers b)) refl
  where
    go : (i : Option Segment) → find is_interp (headers b) ≡ i → (option_map (path_in c) (find is_interp (headers c)) ≡ option_map (path_in b) (find is_interp (headers b))) × (bad_interp b ≡ None → bad_interp c ≡ None)
    go None e = (rw (same, e) refl, λ h. rw (same, e) refl)
    go (Some s) e = let path = path_same b change c s o e in (rw (same, e, path) refl, λ h. let here = rw e at h in rw (same, e, path) here)

-- the words of version files
low_word : (b : List ℕ) (k : ℕ) → HasVersions b → k < verneed_count b → vn_file b (verneed_place b k) < old_size b
low_word b k v low = (name_within b b (vn_file b (verneed_place b k)) (omega arith) (need_of b k v low).named).1

file_at : (b : List ℕ) (change : Change) (c : List ℕ) (k : ℕ) → Fits change b → IsRemade b change c → KeepsTexts b c (headers b) (headers c) (dynamic_entries b) (dynamic_entries c) → k < verneed_count b → ReadsFile b change c k (vn_file c (verneed_place b k))
file_at b change c k fits r keeps low =
    let v = has_versions b (unflawed_parts b r.over.unflawed).versions in
    subst (λ n. ReadsFile b change c k n) (sym (r.files k low)) (file_read b change c k fits r.grown keeps (low_word b k v low))

none_among : (p : ℕ → Bool) (f : ℕ → ℕ) (a n : ℕ) → ((k : ℕ) → k < a + n → p (f k) ≡ false) → find p (map f (range_with_len a n)) ≡ None
none_among p f a zero each = refl
none_among p f a (suc n) each = rw (each a (omega arith)) (none_among p f (a + 1) n (λ k low. each k (omega arith)))

none_flawed : (o : Option ℕ) → flaw_at BAD_NAME o ≡ None → o ≡ None
none_flawed None e = refl
none_flawed (Some x) e = absurd (cc)

none_mapped : (f : ℕ → ℕ) (o : Option ℕ) → option_map f o ≡ None → o ≡ None
none_mapped f None e = refl
none_mapped f (Some x) e = absurd (cc)

files_named : (b : List ℕ) (change : Change) (c : List ℕ) → Fits change b → IsRemade b change c → KeepsTexts b c (headers b) (headers c) (dynamic_entries b) (dynamic_entries c) → KeepsVersions (symbol_count b) b c → bad_version_file c ≡ None
files_named b change c fits r keeps v =
    let old : bad_version_file b ≡ None = (has_names b (unflawed_parts b r.over.unflawed).names).files in
    let none : find (names_no_text b) (verneeds b) ≡ None = none_mapped (vn_file b) (find (names_no_text b) (verneeds b)) (none_flawed (option_map (vn_file b) (find (names_no_text b) (verneeds b))) old) in
    let count = (counts_kept b c v.tags).1 in
    let here : find (names_no_text c) (verneeds c) ≡ None = none_among (names_no_text c) (verneed_place c) 0 (verneed_count c) (λ k low. one k (omega (arith, count)) none) in
    rw here refl
  where
    listed : (k : ℕ) → k < verneed_count b → slice_get (verneeds b) k ≡ Some (verneed_place b k)
    listed k low = at_map (range_with_len 0 (verneed_count b)) k (counted_from (verneed_count b) k low)
      where
        at_map : (xs : List ℕ) (j : ℕ) → slice_get xs j ≡ Some k → slice_get (map (verneed_place b) xs) j ≡ Some (verneed_place b k)
        at_map [] j e = absurd (cc)
        at_map (x ∷ xs) zero e = let same : x ≡ k = cc in ap (λ i. Some (verneed_place b i)) same
        at_map (x ∷ xs) (suc j) e = at_map xs j e

    still : (x y z : Bool) → (x && y) ≡ false → (y ≡ false → z ≡ false) → (x && z) ≡ false
    still false y z h on = refl
    still true y z h on = on h

    one : (k : ℕ) → k < verneed_count b → find (names_no_text b) (verneeds b) ≡ None → names_no_text c (verneed_place c k) ≡ false
    one k low none =
        let there : verneed_place c k ≡ verneed_place b k = verneed_there (symbol_count b) b c k v low in
        let cnt : vn_cnt c (verneed_place b k) ≡ vn_cnt b (verneed_place b k) = (need_words (symbol_count b) b c k v low).cnt in
        let old : names_no_text b (verneed_place b k) ≡ false = none_in (names_no_text b) (verneeds b) k (verneed_place b k) none (listed k low) in
        let file = file_at b change c k fits r keeps low in
        rw (there, cnt) (still (not (vn_cnt b (verneed_place b k) == 0)) (is_no_text b (vn_file b (verneed_place b k))) (is_no_text c (vn_file c (verneed_place b k))) old file.fine)

-- the names of the dynamic table
pub wanted_texts : (b : List ℕ) (change : Change) (c : List ℕ) → ReadsNames b change c → AreWanted (is_no_text c) (text_places b change)
wanted_texts b change c r = record {
  needs = All-weaker (λ at. (at < new_size b change) × (is_no_text c at ≡ false)) (λ at. is_no_text c at ≡ false) (λ at h. h.1) (text_places b change).needs r.needs.all;
  soname = λ v e. (r.soname.fine v e).1;
  runpath = λ v e. (r.runpath.fine v e).1;
}

placed_all : (b : List ℕ) (change : Change) (values : List ℕ) (news : List (List ℕ)) → length values ≡ length news → length (need_places b (grown_by b change) values news) ≡ length values
placed_all b change [] news e = refl
placed_all b change (v ∷ values) [] e = absurd (omega arith)
placed_all b change (v ∷ values) (n ∷ news) e = ap suc (placed_all b change values news (omega arith))

valued_long : (xs : List Entry) → length (map (λ e. e.value) xs) ≡ length xs
valued_long [] = refl
valued_long (x ∷ xs) = ap suc (valued_long xs)

pub needs_placed : (b : List ℕ) (change : Change) → Fits change b → length (text_places b change).needs ≡ length (filter (λ e. e.tag == DT_NEEDED) (dynamic_entries b))
unfolding text_places
needs_placed b change fits =
    placed_all b change (need_values (dynamic_entries b)) change.needs (needs_counted b change fits) ∙ valued_long (filter (λ e. e.tag == DT_NEEDED) (dynamic_entries b))

texts_fine : (b : List ℕ) (change : Change) (c : List ℕ) (tag : ℕ) → Fits change b → IsRemade b change c → ReadsNames b change c → ((e : Entry) → (e.tag == tag) ≡ true → is_name e ≡ true) → bad_text_of c tag ≡ None
texts_fine b change c tag fits r n names =
    names_texts c (text_places b change) (dynamic_entries b) tag (r.grown.entries ∙ entries_are b change) names (wanted_texts b change c n) (needs_placed b change fits)

names_fine : (b : List ℕ) (change : Change) (c : List ℕ) → Fits change b → IsRemade b change c → ReadsNames b change c → KeepsTexts b c (headers b) (headers c) (dynamic_entries b) (dynamic_entries c) → KeepsVersions (symbol_count b) b c → name_flaw c ≡ None
unfolding name_flaw
names_fine b change c fits r n keeps v =
    let needs = texts_fine b change c DT_NEEDED fits r n (λ e t. grind (arith, nat_tests)) in
    let soname = texts_fine b change c DT_SONAME fits r n (λ e t. grind (arith, nat_tests)) in
    let rpath = texts_fine b change c DT_RPATH fits r n (λ e t. grind (arith, nat_tests)) in
    let runpath = texts_fine b change c DT_RUNPATH fits r n (λ e t. grind (arith, nat_tests)) in
    let files = files_named b change c fits r keeps v in
    let path = (interp_same b change c r.over r.interp).1 (has_names b (unflawed_parts b r.over.unflawed).names).path in
    rw (needs, soname, rpath, runpath, files, path) refl

pub is_rewritten : (b : List ℕ) (change : Change) (c : List ℕ) → Fits change b → IsRemade b change c → IsRewritten b c (wanted_of b change)
is_rewritten b change c fits r =
    let fine = unflawed_parts b r.over.unflawed in
    let strings = (has_table b fine.dynamic).strings in
    let texts = grown_texts b change c strings r.grown in
    let tags = grown_tags b change c r.grown in
    let n = names_read b change c strings fits r.grown in
    let v = keeps_versions b change c r.over r.headers_are tags texts (λ k low. word_below b change c k fits r texts low) in
    record {
      headers_fine = r.headers_are.fine;
      dynamic_fine = r.dynamic;
      names_fine = names_fine b change c fits r n texts v;
      symbols = keeps_symbols b change c r.over r.headers_are tags texts (sections_same b change c r.over tags r.outside);
      versions = v;
      machine = (same_header b change c r.over).machine;
      interp = (interp_same b change c r.over r.interp).0;
      needs = needs_are b change c fits r.grown n;
      soname = soname_is b change c fits r.grown n;
      rpath = rpath_is b change c r.grown;
      runpath = runpath_is b change c r.grown n;
      files = λ k low. (file_at b change c k fits r texts low).text;
    }
  where
    word_below : (b : List ℕ) (change : Change) (c : List ℕ) (k : ℕ) → Fits change b → IsRemade b change c → KeepsTexts b c (headers b) (headers c) (dynamic_entries b) (dynamic_entries c) → k < verneed_count b → vn_file c (verneed_place b k) < strings_size (dynamic_entries c)
    word_below b change c k fits r texts low = let below = (file_at b change c k fits r texts low).below in rw r.grown.size below

-- the new file
pub is_new : (b : List ℕ) (change : Change) (c : List ℕ) → Fits change b → IsRemade b change c → SameImage b c (written_ranges b change) → IsNewFile b change c
unfolding string_at
is_new b change c fits r image =
    let face = new_face b c (wanted_of b change) r.over.unflawed (is_rewritten b change c fits r) in
    let texts = grown_texts b change c (has_table b (unflawed_parts b r.over.unflawed).dynamic).strings r.grown in
    record { unflawed = face.0; face = face.1; texts = texts.texts; image = image }
