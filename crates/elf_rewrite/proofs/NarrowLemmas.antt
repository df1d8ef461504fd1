-- A file whose dynamic table alone is written anew has a face
use Rattle.std.proofs.Common.{◌≡◌, ℕ, suc, ◌+◌, ◌-◌, ◌*◌, ◌^◌, ◌<◌, ◌≤◌, ◌==◌, ◌||◌, Bool, true, false, cond, not, List, [], ◌∷◌, ◌++◌, Option, Some, None, length, map, take, drop, refl, ap, sym, subst, ◌∙◌, arith, append-nil}
use Rattle.std.specs.Prelude.{nat_lt, replicate, slice_get}
use Rattle.std.specs.List.{All, before_first, find, list_all, list_any, position_or_len}
use Rattle.std.specs.Str.{bytes_eq}
use Rattle.std.proofs.Math.Nat.{mul-le-mul_left, mul-suc}
use Rattle.std.proofs.lemmas.Bool.Decides.{nat_tests}
use Rattle.std.proofs.lemmas.List.Elements.{All-same}
use Rattle.std.proofs.lemmas.List.Folds.{list_all-map}
use Rattle.answers.specs.First.{some_where}
use Rattle.byte_view.specs.Checks.{flaw}
use Rattle.byte_view.specs.Dynamic.{capacity_of, dynamic_capacity, dynamic_entries, dynamic_table, is_end, strings_at, strings_of, tagged, entries_bytes}
use Rattle.byte_view.specs.DynamicFlaws.{misplaced, no_end, place_flaw, two_dynamic}
use Rattle.byte_view.specs.HeaderFlaws.{header_flaw, headers_end, ident_flaw, segment_flaw, short_headers, word_flaw, wrong_entry_size, wrong_header_size, wrong_kind, wrong_machine, wrong_number}
use Rattle.byte_view.specs.Headers.{e_phnum, e_phoff, header_at, headers, is_dynamic}
use Rattle.byte_view.specs.Numbers.{number_at}
use Rattle.byte_view.specs.declared.constants.TheConstants.{DT_NULL, PN_XNUM}
use Rattle.byte_view.specs.declared.dynamic.Entry.{Entry}
use Rattle.byte_view.specs.declared.flaws.TheConstants.{NO_END}
use Rattle.byte_view.specs.declared.segments.Segment.{Segment}
use Rattle.byte_view.proofs.Loads.{none_first}
use Rattle.dyn_table.proofs.StringTable.{AreStrings, strings_there}
use Rattle.load_model.specs.Escaping.{AreBytes}
use Rattle.load_model.specs.Faces.{first_flaw}
use Rattle.load_model.specs.VersionTables.{verneed_count}
use Rattle.strtab_grow.specs.Growth.{added, once, stands_in}
use Rattle.two_files.specs.Entries.{new_entries}
use Rattle.two_files.specs.Kept.{Range, SameImage, misses}
use Rattle.two_files.proofs.HeadersFine.{headers_fine}
use Rattle.two_files.proofs.Image.{image_left}
use Rattle.two_files.proofs.Left.{word_left}
use Rattle.two_files.proofs.Words.{same_made}
use Rattle.elf_rewrite.specs.NewFile.{Fits, IsNewFile}
use Rattle.elf_rewrite.specs.NewTable.{entries_in, grown_by, new_place, new_size, new_strings_at, old_size, places_with}
use Rattle.elf_rewrite.specs.NewTexts.{changed_texts, new_texts, removes, wants_segment}
use Rattle.elf_rewrite.specs.Patched.{end_of, patched, range_of}
use Rattle.elf_rewrite.specs.Pieces.{StaysWithin, Overlay, laid, put_together}
use Rattle.elf_rewrite.specs.Ranges.{first_overlap, meets, ranges_of, single_range, where_known}
use Rattle.elf_rewrite.specs.Rewriting.{file_for, padded_entries, rewriting, table_patch}
use Rattle.elf_rewrite.specs.declared.change.Change.{Change}
use Rattle.elf_rewrite.specs.declared.patch.Patch.{Patch}
use Rattle.elf_rewrite.proofs.ApartLemmas.{segments_apart, strings_apart}
use Rattle.elf_rewrite.proofs.Fields.{IsShort}
use Rattle.elf_rewrite.proofs.Lengths.{capacity_is, entries_fewer, padded_long}
use Rattle.elf_rewrite.proofs.PartsLemmas.{HasParts, remade}
use Rattle.elf_rewrite.proofs.Planned.{rewriting_narrow}
use Rattle.elf_rewrite.proofs.RemadeLemmas.{is_new}
use Rattle.elf_rewrite.proofs.SectionLemmas.{number_in, same_header}
use Rattle.elf_rewrite.proofs.SegmentLemmas.{keeps_laid, laid_long}
use Rattle.elf_rewrite.proofs.ShortLemmas.{number_small}
use Rattle.elf_rewrite.proofs.Soundness.{no_path, range_within, sound_table}
use Rattle.elf_rewrite.proofs.SpareLemmas.{IsOver, SamePart, spared_same, spares, table_high, table_listed, table_same, table_some}
use Rattle.elf_rewrite.proofs.StandingLemmas.{all_short, ended_short, last_reads, old_strings_short, padded_end, table_is}
use Rattle.elf_rewrite.proofs.TableLemmas.{has_versions, placed_need}
use Rattle.elf_rewrite.proofs.TextLemmas.{entries_are, file_known, file_value, places_are}
use Rattle.elf_rewrite.proofs.UnflawedLemmas.{HasStrings, HasTable, has_strings, has_table, unflawed_parts}
use Rattle.elf_rewrite.proofs.Wholeness.{whole}
use Rattle.elf_rewrite.proofs.WordLemmas.{table_spares}
use Rattle.elf_rewrite.proofs.WrittenLemmas.{HasRoom, all_table, need_place, table_place, written_ranges}

-- a change that adds nothing, which no overlap stops
pub record IsNarrowed (b : List ℕ) (change : Change) : Type 0 where
  pub bytes : AreBytes b
  pub unflawed : first_flaw b ≡ None
  pub fits : Fits change b
  pub still : wants_segment b change ≡ false
  pub removed : removes b change ≡ true
  pub apart : first_overlap b ≡ None

pub no_texts : (b : List ℕ) (change : Change) → wants_segment b change ≡ false → changed_texts b change ≡ []
no_texts b change e = go (changed_texts b change) e
  where
    go : (xs : List (List ℕ)) → not (length xs == 0) ≡ false → xs ≡ []
    go [] e = refl
    go (x ∷ xs) e = absurd (
        let some : (length (x ∷ xs) == 0) ≡ false = grind (arith, nat_tests) in
        let wanted : not (length (x ∷ xs) == 0) ≡ true = rw some refl in
        cc
        )

nothing_added : (b : List ℕ) (change : Change) → wants_segment b change ≡ false → (added (new_texts b change) ≡ []) × (new_size b change ≡ old_size b)
nothing_added b change e =
    let none : new_texts b change ≡ [] = ap once (no_texts b change e) in
    let bytes : added (new_texts b change) ≡ [] = ap added none in
    (bytes, ap (λ (l : List ℕ). old_size b + length l) bytes ∙ (omega arith))

at_old_place : (b : List ℕ) (change : Change) → wants_segment b change ≡ false → new_strings_at b change ≡ strings_at (dynamic_entries b)
at_old_place b change e = rw e refl

-- there is room for the entries and their end
before_short : (xs : List Entry) → list_any is_end xs ≡ true → length (before_first is_end xs) < length xs
before_short [] h = absurd (cc)
before_short (x ∷ xs) h = go (is_end x) refl h (before_short xs)
  where
    go : (t : Bool) → is_end x ≡ t → (t || list_any is_end xs) ≡ true → (list_any is_end xs ≡ true → length (before_first is_end xs) < length xs) → length (before_first is_end (x ∷ xs)) < length (x ∷ xs)
    go true e h on = rw e (omega arith)
    go false e h on =
        let later = on h in
        let one : 1 + position_or_len is_end xs ≡ suc (position_or_len is_end xs) = omega arith in
        rw (e, one) (omega arith)

ends_somewhere : (xs : List Entry) → no_end xs ≡ None → list_any is_end xs ≡ true
ends_somewhere xs e = go (list_any is_end xs) e
  where
    go : (t : Bool) → some_where (not t) (flaw NO_END 0 0) ≡ None → t ≡ true
    go true e = refl
    go false e = absurd (cc)

entries_few : (b : List ℕ) → HasTable b → length (dynamic_entries b) < dynamic_capacity b
unfolding dynamic_entries
entries_few b t = before_short (dynamic_table b) (ends_somewhere (dynamic_table b) t.ended)

narrow_room : (b : List ℕ) (change : Change) → IsNarrowed b change → length (entries_in b change) + 1 ≤ dynamic_capacity b
narrow_room b change n =
    let t = has_table b (unflawed_parts b n.unflawed).dynamic in
    let none : length (changed_texts b change) ≡ 0 = ap length (no_texts b change n.still) in
    let fewer = entries_fewer (places_with b change (new_strings_at b change)) (dynamic_entries b) (no_path b change (new_strings_at b change) none) in
    let are : entries_in b change ≡ new_entries (places_with b change (new_strings_at b change)) (dynamic_entries b) = rw (← places_are b change) (entries_are b change) in
    omega (arith, ap length are, entries_few b t)

has_room : (b : List ℕ) (change : Change) → IsNarrowed b change → HasRoom b change
has_room b change n = let room = narrow_room b change n in record { stays = λ e. omega arith; alone = λ w d. omega arith }

-- the new file
abbrev narrow : List ℕ → Change → Overlay
narrow b change = record { old_len = length b; patches = table_patch (dynamic_capacity b) (entries_in b change) (find is_dynamic (headers b)); added = [] }

abbrev narrow_file : List ℕ → Change → List ℕ
narrow_file b change = laid b (narrow b change)

narrow_is : (b : List ℕ) (change : Change) → IsNarrowed b change → rewriting b change ≡ narrow b change
narrow_is b change n = rewriting_narrow b change n.still n.removed

narrow_sound : (b : List ℕ) (change : Change) → IsNarrowed b change → StaysWithin (narrow b change)
narrow_sound b change n =
    let fine = (unflawed_parts b n.unflawed).headers in
    let w = whole b fine in
    let room = narrow_room b change n in
    sound_table b (entries_in b change) (record { same = refl; unflawed = fine }) (omega (arith, w.1)) (omega arith)

narrow_long : (b : List ℕ) (change : Change) → IsNarrowed b change → length (narrow_file b change) ≡ length b
narrow_long b change n = laid_long b (narrow b change) refl (narrow_sound b change n) ∙ (omega arith)

narrow_over : (b : List ℕ) (change : Change) → IsNarrowed b change → IsOver b change (narrow_file b change)
narrow_over b change n = record {
  unflawed = n.unflawed;
  apart = n.apart;
  room = has_room b change n;
  keeps = rw (narrow_is b change n) (keeps_laid b (narrow b change) refl (narrow_sound b change n));
}

narrow_pass : (P : Range → Bool) (b : List ℕ) (change : Change) → IsNarrowed b change → ((s : Segment) → find is_dynamic (headers b) ≡ Some s → P (table_place s) ≡ true) → list_all P (written_ranges b change) ≡ true
narrow_pass P b change n each =
    let room = narrow_room b change n in
    ap (λ (o : Overlay). list_all P (map range_of o.patches)) (narrow_is b change n)
    ∙ (list_all-map P range_of (narrow b change).patches ∙ all_table P b (entries_in b change) (omega arith) each)

-- its headers
far_misses : (at n : ℕ) (r : Range) → at + n ≤ 64 → 64 ≤ r.0 → misses at n r ≡ true
far_misses at n r high far = grind (arith, nat_tests)

header_word : (b : List ℕ) (change : Change) (at k : ℕ) → IsNarrowed b change → at + k ≤ 64 → number_at k (narrow_file b change) at ≡ number_at k b at
header_word b change at k n high =
    let long = (whole b (unflawed_parts b n.unflawed).headers).0 in
    word_left k at b (narrow_file b change) (written_ranges b change) (narrow_over b change n).keeps (omega arith)
    (narrow_pass (λ r. misses at k r) b change n (λ s found. far_misses at k (table_place s) high (table_high b s n.unflawed n.apart found)))

off : {A : Type 0} (t : Bool) (x : A) → some_where t x ≡ None → t ≡ false
off true x e = absurd (cc)
off false x e = refl

pub record HasSegments (b : List ℕ) : Type 0 where
  pub some : 0 < e_phnum b
  pub other : (e_phnum b == PN_XNUM) ≡ false
  pub within : headers_end b ≤ length b

has_segments : (b : List ℕ) → header_flaw b ≡ None → HasSegments b
unfolding header_flaw word_flaw
has_segments b e =
    let first = none_first (ident_flaw b) (word_flaw b ∷ segment_flaw (length b) (headers b) ∷ []) e in
    let second = none_first (word_flaw b) (segment_flaw (length b) (headers b) ∷ []) first.1 in
    let a = none_first (wrong_machine b) (wrong_kind b ∷ wrong_header_size b ∷ wrong_entry_size b ∷ wrong_number b ∷ short_headers b ∷ []) second.0 in
    let c = none_first (wrong_kind b) (wrong_header_size b ∷ wrong_entry_size b ∷ wrong_number b ∷ short_headers b ∷ []) a.1 in
    let d = none_first (wrong_header_size b) (wrong_entry_size b ∷ wrong_number b ∷ short_headers b ∷ []) c.1 in
    let f = none_first (wrong_entry_size b) (wrong_number b ∷ short_headers b ∷ []) d.1 in
    let g = none_first (wrong_number b) (short_headers b ∷ []) f.1 in
    let h = none_first (short_headers b) [] g.1 in
    let number = off ((e_phnum b == 0) || (e_phnum b == PN_XNUM)) _ g.0 in
    let short = off (nat_lt (length b) (headers_end b)) _ h.0 in
    record { some = some_of (e_phnum b) number; other = other_of (e_phnum b == 0) (e_phnum b == PN_XNUM) number; within = ends (length b) (headers_end b) short }
  where
    some_of : (n : ℕ) → ((n == 0) || (n == PN_XNUM)) ≡ false → 0 < n
    some_of n h = grind (arith, nat_tests)

    other_of : (x y : Bool) → (x || y) ≡ false → y ≡ false
    other_of true y h = absurd (cc)
    other_of false y h = h

    ends : (m n : ℕ) → nat_lt m n ≡ false → n ≤ m
    ends m n h = grind (arith, nat_tests)

segments_listed : (b : List ℕ) → slice_get (ranges_of b 2) 0 ≡ Some (e_phoff b, e_phoff b + 56 * e_phnum b)
unfolding ranges_of single_range
segments_listed b = refl

spared_table : (r s : Range) → meets r s ≡ false → r.0 < r.1 → spares s r ≡ true
spared_table r s h some = grind (arith, nat_tests)

segments_same : (b : List ℕ) (change : Change) → IsNarrowed b change → SamePart b (narrow_file b change) (e_phoff b) (56 * e_phnum b)
segments_same b change n =
    let fine = (unflawed_parts b n.unflawed).headers in
    let within = (has_segments b fine).within in
    spared_same b (narrow_file b change) (written_ranges b change) (e_phoff b) (56 * e_phnum b) (narrow_over b change n).keeps
    (narrow_pass (spares (e_phoff b, e_phoff b + 56 * e_phnum b)) b change n (λ s found. one s found)) within
  where
    one : (s : Segment) → find is_dynamic (headers b) ≡ Some s → spares (e_phoff b, e_phoff b + 56 * e_phnum b) (table_place s) ≡ true
    one s found =
        let some : 0 < 16 * capacity_of s = table_some b s n.unflawed found in
        spared_table (table_place s) (e_phoff b, e_phoff b + 56 * e_phnum b) ((segments_apart b n.apart).table.apart 0 0 (table_place s) (e_phoff b, e_phoff b + 56 * e_phnum b) (table_listed b s found) (segments_listed b)) (omega arith)

header_same : (b c : List ℕ) (i : ℕ) → SamePart b c (e_phoff b) (56 * e_phnum b) → i < e_phnum b → header_at c (e_phoff b + 56 * i) ≡ header_at b (e_phoff b + 56 * i)
unfolding header_at
header_same b c i s low =
    rw (first, word 4 4 (omega arith), word 8 8 (omega arith), word 16 8 (omega arith), word 24 8 (omega arith), word 32 8 (omega arith), word 40 8 (omega arith), word 48 8 (omega arith)) refl
  where
    word : (k n : ℕ) → k + n ≤ 56 → number_at n c (e_phoff b + 56 * i + k) ≡ number_at n b (e_phoff b + 56 * i + k)
    word k n fits =
        let most : 56 * suc i ≤ 56 * e_phnum b = mul-le-mul_left 56 (omega arith) in
        let place : e_phoff b + (56 * i + k) ≡ e_phoff b + 56 * i + k = omega arith in
        rw place at (number_in b c (e_phoff b) (56 * e_phnum b) (56 * i + k) n s (omega (arith, mul-suc 56 i)))

    first : number_at 4 c (e_phoff b + 56 * i) ≡ number_at 4 b (e_phoff b + 56 * i)
    first =
        let start : e_phoff b + 56 * i + 0 ≡ e_phoff b + 56 * i = omega arith in
        rw start at (word 0 4 (omega arith))

narrow_headers : (b : List ℕ) (change : Change) → IsNarrowed b change → headers (narrow_file b change) ≡ headers b
unfolding headers
narrow_headers b change n =
    let place : e_phoff (narrow_file b change) ≡ e_phoff b = header_word b change 32 8 n (omega arith) in
    let number : e_phnum (narrow_file b change) ≡ e_phnum b = header_word b change 56 2 n (omega arith) in
    let s = segments_same b change n in
    rw (place, number) (same_made (λ i. header_at (narrow_file b change) (e_phoff b + 56 * i)) (λ i. header_at b (e_phoff b + 56 * i)) 0 (e_phnum b) (λ i from low. header_same b (narrow_file b change) i s (omega arith)))

narrow_fine : (b : List ℕ) (change : Change) → IsNarrowed b change → header_flaw (narrow_file b change) ≡ None
narrow_fine b change n =
    let fine = (unflawed_parts b n.unflawed).headers in
    let w = whole b fine in
    let s = has_segments b fine in
    let some = s.some in
    let within = s.within in
    let long = narrow_long b change n in
    let place : e_phoff (narrow_file b change) ≡ e_phoff b = header_word b change 32 8 n (omega arith) in
    let number : e_phnum (narrow_file b change) ≡ e_phnum b = header_word b change 56 2 n (omega arith) in
    let small : e_phnum b < 256 ^ 2 = number_small 2 56 b n.bytes in
    let few : e_phnum b < PN_XNUM = below (e_phnum b) small s.other in
    headers_fine b (narrow_file b change) (same_header b change (narrow_file b change) (narrow_over b change n)) (omega arith) (omega (arith, w.1)) (omega arith) (omega arith) (omega arith)
    (λ e. rw (long, narrow_headers b change n) e) fine
  where
    below : (m : ℕ) → m < 256 ^ 2 → (m == PN_XNUM) ≡ false → m < PN_XNUM
    below m small other = grind (arith, nat_tests)

-- its parts
strings_left : (b : List ℕ) (change : Change) → IsNarrowed b change → (s : HasStrings b) → take (new_size b change) (drop s.range.0 (narrow_file b change)) ≡ strings_of b (headers b) (dynamic_entries b) ++ added (new_texts b change)
unfolding ranges_of single_range
strings_left b change n s =
    let fine = (unflawed_parts b n.unflawed).headers in
    let none = nothing_added b change n.still in
    let w = range_within b (strings_at (dynamic_entries b)) (old_size b) s.range fine s.there in
    let listed : slice_get (ranges_of b 5) 0 ≡ Some (s.range.0, s.range.0 + old_size b) = ap (λ (o : Option Range). slice_get (where_known o) 0) s.there ∙ ap (λ (m : ℕ). Some (s.range.0, m)) (sym w.0) in
    let part : SamePart b (narrow_file b change) s.range.0 (old_size b) = table_same b change (narrow_file b change) (ranges_of b 5) 0 s.range.0 (old_size b) (narrow_over b change n) (strings_apart b n.apart) listed (omega (arith, w.0, w.1)) in
    let start : s.range.0 + 0 ≡ s.range.0 = omega arith in
    let same : take (old_size b) (drop s.range.0 (narrow_file b change)) ≡ take (old_size b) (drop s.range.0 b) = rw start at (part.parts 0 (old_size b) (omega arith)) in
    let old : AreStrings b (strings_of b (headers b) (dynamic_entries b)) s.range = strings_there (headers b) b (dynamic_entries b) s.range (record { same = refl; unflawed = fine }) s.there in
    let size : s.range.1 - s.range.0 ≡ old_size b = omega (arith, w.0) in
    let read : take (old_size b) (drop s.range.0 b) ≡ strings_of b (headers b) (dynamic_entries b) = rw size at (old.same) in
    rw (none.1, none.0) (same ∙ (read ∙ sym (append-nil (strings_of b (headers b) (dynamic_entries b)))))

table_reads : (b : List ℕ) (change : Change) (s : Segment) → IsNarrowed b change → find is_dynamic (headers b) ≡ Some s → (rest : List ℕ) × (drop s.offset (narrow_file b change) ≡ entries_bytes (padded_entries (dynamic_capacity b) (entries_in b change)) ++ rest)
unfolding laid
table_reads b change s n found =
    let p : Patch = record { at = s.offset; bytes = entries_bytes (padded_entries (dynamic_capacity b) (entries_in b change)) } in
    let patches : (narrow b change).patches ≡ [] ++ p ∷ [] = rw found refl in
    let fits : All (λ q. end_of q ≤ length b) ([] ++ p ∷ []) = All-same (λ q. end_of q ≤ length b) ([] ++ p ∷ []) (narrow b change).patches (sym patches) (narrow_sound b change n).fits in
    let read = last_reads b (put_together b []) [] p fits in
    (_, ap (λ (ps : List Patch). drop s.offset (patched b ps ++ put_together b [])) patches ∙ read)

word_kept : (b : List ℕ) (change : Change) (k : ℕ) → IsNarrowed b change → k < verneed_count b → need_place b k + 16 ≤ length b → number_at 4 (narrow_file b change) (need_place b k + 4) ≡ number_at 4 b (need_place b k + 4)
word_kept b change k n low within =
    word_left 4 (need_place b k + 4) b (narrow_file b change) (written_ranges b change) (narrow_over b change n).keeps (omega arith)
    (narrow_pass (λ r. misses (need_place b k + 4) 4 r) b change n (λ s found. table_spares b k s n.unflawed n.apart low found))

pub same_value : (b : List ℕ) (change : Change) (k at : ℕ) → Fits change b → wants_segment b change ≡ false → file_value b (grown_by b change) at (file_for b change k) ≡ at
same_value b change k at fits still = go (file_for b change k) refl
  where
    go : (o : Option (List ℕ × List ℕ)) → file_for b change k ≡ o → file_value b (grown_by b change) at o ≡ at
    go None e = refl
    go (Some p) e = step (bytes_eq p.0 p.1) refl
      where
        step : (t : Bool) → bytes_eq p.0 p.1 ≡ t → cond t at (new_place (grown_by b change) p.1) ≡ at
        step true s = refl
        step false s = absurd (let stands = (file_known b change k p fits e).among s in let none = no_texts b change still in nothing stands none)
          where
            nothing : stands_in p.1 (changed_texts b change) ≡ true → changed_texts b change ≡ [] → ⊥
            nothing stands none = let no : stands_in p.1 [] ≡ true = rw none at stands in cc

placed_by : (segments : List Segment) (s : Segment) → two_dynamic segments ≡ None → misplaced segments s ≡ None → place_flaw segments s ≡ None
unfolding place_flaw
placed_by segments s two placed = rw (two, placed) refl

narrow_parts : (b : List ℕ) (change : Change) → IsNarrowed b change → HasParts b change (narrow_file b change)
narrow_parts b change n =
    let fine = unflawed_parts b n.unflawed in
    let t = has_table b fine.dynamic in
    let s = has_strings b t.strings in
    let d = t.segment in
    let same = narrow_headers b change n in
    let long = narrow_long b change n in
    let none = nothing_added b change n.still in
    let w = range_within b (strings_at (dynamic_entries b)) (old_size b) s.range fine.headers s.there in
    let most = (whole b fine.headers).1 in
    let room = narrow_room b change n in
    let at = at_old_place b change n.still in
    let found : find is_dynamic (headers (narrow_file b change)) ≡ Some d = rw same (t.found) in
    let placed : place_flaw (headers (narrow_file b change)) d ≡ None = rw same (placed_by (headers b) d t.two t.placed) in
    let m : ℕ = dynamic_capacity b - (length (entries_in b change) + 1) in
    let padding = padded_end (dynamic_capacity b) (entries_in b change) room in
    let small : All (λ e. IsShort e) (entries_in b change) = all_short b change n.bytes fine.headers t (omega (arith, none.1, w.0, w.1)) (rw at (old_strings_short b n.bytes fine.headers t)) in
    let short = ended_short m (entries_in b change) small in
    let padded_size : length (padded_entries (dynamic_capacity b) (entries_in b change)) ≡ dynamic_capacity b = padded_long (dynamic_capacity b) (entries_in b change) (omega arith) in
    let size : capacity_of d ≡ length (entries_in b change ++ tagged DT_NULL 0 ∷ replicate m (tagged DT_NULL 0)) = sym (capacity_is b d t.found) ∙ (sym padded_size ∙ ap length padding) in
    let stands = table_reads b change d n t.found in
    let v = has_versions b fine.versions in
    record {
      over = narrow_over b change n;
      headers_are = record { fine = narrow_fine b change n; ranges = record { keeps = λ addr len e. rw same refl } };
      segment = d;
      found = found;
      placed = placed;
      rest = replicate m (tagged DT_NULL 0);
      table = table_is (narrow_file b change) stands.0 d (entries_in b change ++ tagged DT_NULL 0 ∷ replicate m (tagged DT_NULL 0)) (narrow_fine b change n) found placed size short (stands.1 ∙ ap (λ xs. entries_bytes xs ++ stands.0) padding);
      range = s.range;
      there = rw (same, at, none.1) (s.there);
      strings = strings_left b change n s;
      interp = rw same refl;
      outside = record { outside = λ a e far. omega arith };
      words = λ k low. word_kept b change k n low (placed_need b k fine.headers v low).within ∙ sym (same_value b change k (number_at 4 b (need_place b k + 4)) n.fits n.still);
    }

pub narrow_new : (b : List ℕ) (change : Change) → IsNarrowed b change → IsNewFile b change (laid b (rewriting b change))
narrow_new b change n =
    let fine = unflawed_parts b n.unflawed in
    let image : SameImage b (narrow_file b change) (written_ranges b change) = image_left b (narrow_file b change) (written_ranges b change) fine.headers (narrow_over b change n).keeps (narrow_headers b change n) in
    let new = is_new b change (narrow_file b change) n.fits (remade b change (narrow_file b change) n.fits (narrow_parts b change n)) image in
    subst (λ (o : Overlay). IsNewFile b change (laid b o)) (sym (narrow_is b change n)) new
