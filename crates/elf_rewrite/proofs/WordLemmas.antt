-- The words that name files of which versions are needed, in a file with a segment more
use Rattle.std.proofs.Common.{◌≡◌, ℕ, zero, suc, ◌+◌, ◌*◌, ◌^◌, ◌<◌, ◌≤◌, ◌==◌, Bool, true, false, cond, List, [], ◌∷◌, ◌++◌, Option, Some, None, length, map, take, drop, refl, ap, sym, ◌∙◌, arith, append_assoc}
use Rattle.std.specs.Prelude.{nat_lt, slice_get}
use Rattle.std.specs.List.{All, enumerate_from, find, flat_map, list_all}
use Rattle.std.specs.Str.{bytes_eq}
use Rattle.std.proofs.lemmas.Bool.Decides.{nat_tests}
use Rattle.std.proofs.lemmas.List.Elements.{All-same, All-tail, All-weaker}
use Rattle.std.proofs.lemmas.List.Folds.{list_all-append, list_all-map}
use Rattle.byte_view.specs.Dynamic.{capacity_of, dynamic_capacity}
use Rattle.byte_view.specs.Headers.{e_phnum, headers, is_dynamic}
use Rattle.byte_view.specs.Numbers.{number_at}
use Rattle.byte_view.specs.declared.segments.Segment.{Segment}
use Rattle.load_model.proofs.Machine.{slice_get-drop}
use Rattle.load_model.specs.Faces.{first_flaw}
use Rattle.load_model.specs.VersionTables.{file_words_of, verneed_count}
use Rattle.two_files.specs.Kept.{KeepsBytes, Range, misses}
use Rattle.two_files.proofs.Left.{word_left}
use Rattle.elf_rewrite.specs.NewTable.{entries_in, grown_by, new_place, new_size}
use Rattle.elf_rewrite.specs.Patched.{end_of, patched, range_of}
use Rattle.elf_rewrite.specs.Pieces.{laid, put_together}
use Rattle.elf_rewrite.specs.Ranges.{first_overlap, from_place, meets}
use Rattle.elf_rewrite.specs.Rewriting.{file_for, file_patch, file_patches, layout_of, segment_patches, table_written}
use Rattle.elf_rewrite.specs.Words.{word}
use Rattle.elf_rewrite.specs.declared.change.Change.{Change}
use Rattle.elf_rewrite.specs.declared.patch.Patch.{Patch}
use Rattle.elf_rewrite.proofs.ApartLemmas.{meets_flip, needs_apart, needs_beside}
use Rattle.elf_rewrite.proofs.FileSteps.{place_small}
use Rattle.elf_rewrite.proofs.HeadersLaid.{first_word}
use Rattle.elf_rewrite.proofs.Patched.{patched_long}
use Rattle.elf_rewrite.proofs.SegmentLemmas.{HasSegment, has_room, later_of, patches_are, wide, wide_over, wide_sound}
use Rattle.elf_rewrite.proofs.SpareLemmas.{needs_high, table_listed, table_some}
use Rattle.elf_rewrite.proofs.StandingLemmas.{patched-append, split_all}
use Rattle.elf_rewrite.proofs.TextLemmas.{file_value}
use Rattle.elf_rewrite.proofs.WrittenLemmas.{HasRoom, PassesPatches, all_table, files_from, need_listed, need_place, need_there, one_file, patches_pass, table_place, word_there, written_ranges}

-- the word of one need, and what else is written
needs_distinct : (b : List ℕ) (i k : ℕ) → first_overlap b ≡ None → i < verneed_count b → k < verneed_count b → (i == k) ≡ false → meets (from_place 16 (need_place b i)) (from_place 16 (need_place b k)) ≡ false
needs_distinct b i k none hi hk h = go (nat_lt i k) refl
  where
    go : (l : Bool) → nat_lt i k ≡ l → meets (from_place 16 (need_place b i)) (from_place 16 (need_place b k)) ≡ false
    go true u = needs_apart b i k (from_place 16 (need_place b i)) (from_place 16 (need_place b k)) none (need_there b i hi) (need_there b k hk) (grind (arith, nat_tests))
    go false u = meets_flip (from_place 16 (need_place b k)) (from_place 16 (need_place b i)) (needs_apart b k i (from_place 16 (need_place b k)) (from_place 16 (need_place b i)) none (need_there b k hk) (need_there b i hi) (grind (arith, nat_tests)))

words_apart : (i k : ℕ) → meets (from_place 16 i) (from_place 16 k) ≡ false → misses (k + 4) 4 (i + 4, i + 4 + 4) ≡ true
words_apart i k h = grind (arith, nat_tests)

abbrev spares_word : List ℕ → ℕ → Range → Bool
spares_word b k r = misses (need_place b k + 4) 4 r

other_file : (b : List ℕ) (change : Change) (k j : ℕ) → first_overlap b ≡ None → k < verneed_count b → j < verneed_count b → (j == k) ≡ false → list_all (λ q. spares_word b k (range_of q)) (file_patch (grown_by b change) (need_place b j + 4) (file_for b change j)) ≡ true
other_file b change k j none hk hj h =
    one_file (spares_word b k) (grown_by b change) (need_place b j + 4) (file_for b change j) (words_apart (need_place b j) (need_place b k) (needs_distinct b j k none hj hk h))

pub table_spares : (b : List ℕ) (k : ℕ) (s : Segment) → first_flaw b ≡ None → first_overlap b ≡ None → k < verneed_count b → find is_dynamic (headers b) ≡ Some s → spares_word b k (table_place s) ≡ true
table_spares b k s e none low found =
    let some : 0 < 16 * capacity_of s = table_some b s e found in
    let apart : meets (table_place s) (from_place 16 (need_place b k)) ≡ false = (needs_beside b none).apart 0 k (table_place s) (from_place 16 (need_place b k)) (table_listed b s found) (need_listed b k low) in
    inner (table_place s) (need_place b k) apart (omega arith)
  where
    inner : (r : Range) (n : ℕ) → meets r (from_place 16 n) ≡ false → r.0 < r.1 → misses (n + 4) 4 r ≡ true
    inner r n h some = grind (arith, nat_tests)

high_spares : (b : List ℕ) (k : ℕ) → 64 ≤ need_place b k → (r : Range) → r.1 ≤ 64 → spares_word b k r ≡ true
high_spares b k high r low = grind (arith, nat_tests)

-- it stays where nothing is written for the need
word_stays : (b : List ℕ) (change : Change) (c : List ℕ) (k : ℕ) → first_flaw b ≡ None → first_overlap b ≡ None → HasRoom b change → KeepsBytes b c (written_ranges b change) → k < verneed_count b → need_place b k + 16 ≤ length b → file_patch (grown_by b change) (need_place b k + 4) (file_for b change k) ≡ [] → number_at 4 c (need_place b k + 4) ≡ number_at 4 b (need_place b k + 4)
word_stays b change c k e none room keeps low within gone =
    let high = needs_high b k none low in
    let p : PassesPatches (spares_word b k) b change = record {
      place = high_spares b k high (32, 40) (omega arith);
      number = high_spares b k high (56, 58) (omega arith);
      files = λ j h. go j h (j == k) refl;
      table = λ s found. table_spares b k s e none low found;
    } in
    word_left 4 (need_place b k + 4) b c (written_ranges b change) keeps (omega arith) (patches_pass (spares_word b k) b change room p)
  where
    go : (j : ℕ) → j < verneed_count b → (t : Bool) → (j == k) ≡ t → list_all (λ q. spares_word b k (range_of q)) (file_patch (grown_by b change) (need_place b j + 4) (file_for b change j)) ≡ true
    go j h true u = let same : j ≡ k = grind (arith, nat_tests) in rw (same, gone) refl
    go j h false u = other_file b change k j none low h u

pub word_kept : (b : List ℕ) (change : Change) (c : List ℕ) (k : ℕ) → first_flaw b ≡ None → first_overlap b ≡ None → HasRoom b change → KeepsBytes b c (written_ranges b change) → k < verneed_count b → need_place b k + 16 ≤ length b → file_patch (grown_by b change) (need_place b k + 4) (file_for b change k) ≡ [] → number_at 4 c (need_place b k + 4) ≡ number_at 4 b (need_place b k + 4)
word_kept b change c k e none room keeps low within gone = word_stays b change c k e none room keeps low within gone

-- it reads back where the file changes
split_at : (F : ℕ × ℕ → List Patch) (a k w : ℕ) (words : List ℕ) → slice_get words k ≡ Some w → flat_map F (enumerate_from a words) ≡ flat_map F (enumerate_from a (take k words)) ++ (F (a + k, w) ++ flat_map F (enumerate_from (suc (a + k)) (drop (suc k) words)))
split_at F a k w [] h = absurd (cc)
split_at F a zero w (x ∷ more) h =
    let same : x ≡ w = cc in
    let start : a + 0 ≡ a = omega arith in
    let next : suc a ≡ a + 1 = omega arith in
    rw (same, start, next) refl
split_at F a (suc k) w (x ∷ more) h =
    let later = split_at F (a + 1) k w more h in
    let place : a + 1 + k ≡ a + suc k = omega arith in
    let there : flat_map F (enumerate_from (a + 1) more) ≡ flat_map F (enumerate_from (a + 1) (take k more)) ++ (F (a + suc k, w) ++ flat_map F (enumerate_from (suc (a + suc k)) (drop (suc k) more))) = rw place at later in
    ap (λ l. F (a, x) ++ l) there ∙ sym (append_assoc (F (a, x)) (flat_map F (enumerate_from (a + 1) (take k more))) _)

abbrev files_by : List ℕ → Change → ℕ × ℕ → List Patch
files_by b change p = file_patch (grown_by b change) p.1 (file_for b change p.0)

abbrev earlier : List ℕ → Change → ℕ → List Patch
earlier b change k = flat_map (λ p. files_by b change p) (enumerate_from 0 (take k (file_words_of b)))

abbrev later : List ℕ → Change → ℕ → List Patch
later b change k = flat_map (λ p. files_by b change p) (enumerate_from (suc k) (drop (suc k) (file_words_of b)))

files_split : (b : List ℕ) (change : Change) (k : ℕ) → k < verneed_count b → file_patches b change ≡ earlier b change k ++ (file_patch (grown_by b change) (need_place b k + 4) (file_for b change k) ++ later b change k)
unfolding file_patches
files_split b change k low =
    let start : 0 + k ≡ k = omega arith in
    rw start at (split_at (λ p. files_by b change p) 0 k (need_place b k + 4) (file_words_of b) (word_there b k low))

later_misses : (b : List ℕ) (change : Change) (k : ℕ) → HasSegment b change → k < verneed_count b → list_all (λ r. spares_word b k r) (map range_of (later b change k ++ cond (layout_of b change).moved [] (table_written b change))) ≡ true
later_misses b change k h low =
    list_all-map (λ r. spares_word b k r) range_of (later b change k ++ cond (layout_of b change).moved [] (table_written b change))
    ∙ list_all-append (λ q. spares_word b k (range_of q)) (later b change k) (cond (layout_of b change).moved [] (table_written b change))
    ∙ rw (files, table (layout_of b change).moved (has_room b change h.wants).stays) refl
  where
    files : list_all (λ q. spares_word b k (range_of q)) (later b change k) ≡ true
    files =
        files_from (spares_word b k) b change (suc k) (drop (suc k) (file_words_of b)) (λ j w g. sym (slice_get-drop (suc k) (file_words_of b) j) ∙ g)
        (λ j from high. other_file b change k j h.apart low high (grind (arith, nat_tests)))

    table : (m : Bool) → (m ≡ false → length (entries_in b change) ≤ dynamic_capacity b) → list_all (λ q. spares_word b k (range_of q)) (cond m [] (table_written b change)) ≡ true
    table true room = refl
    table false room = all_table (spares_word b k) b (entries_in b change) (room refl) (λ s found. table_spares b k s h.unflawed h.apart low found)

word_changes : (b : List ℕ) (change : Change) (k x : ℕ) → HasSegment b change → k < verneed_count b → need_place b k + 16 ≤ length b → x < 256 ^ 4 → file_patch (grown_by b change) (need_place b k + 4) (file_for b change k) ≡ word 4 (need_place b k + 4) x ∷ [] → number_at 4 (laid b (wide b change)) (need_place b k + 4) ≡ x
unfolding laid segment_patches
word_changes b change k x h low within small made =
    let w : ℕ = need_place b k + 4 in
    let T : List Patch = cond (layout_of b change).moved [] (table_written b change) in
    let pre : List Patch = word 8 32 (layout_of b change).place ∷ (word 2 56 (e_phnum b + 1) ∷ earlier b change k) in
    let post : List Patch = later b change k ++ T in
    let rest : List ℕ = put_together b (wide b change).added in
    let files : file_patches b change ≡ earlier b change k ++ (word 4 w x ∷ later b change k) = rw made at (files_split b change k low) in
    let all : later_of b change ≡ earlier b change k ++ (word 4 w x ∷ post) = rw files (append_assoc (earlier b change k) (word 4 w x ∷ later b change k) T) in
    let patches : segment_patches b change ≡ pre ++ (word 4 w x ∷ post) = patches_are b change ∙ ap (λ l. word 8 32 (layout_of b change).place ∷ (word 2 56 (e_phnum b + 1) ∷ l)) all in
    let fits : All (λ q. end_of q ≤ length b) (pre ++ (word 4 w x ∷ post)) = All-same (λ q. end_of q ≤ length b) (pre ++ (word 4 w x ∷ post)) (segment_patches b change) (sym patches) (wide_sound b change h).fits in
    let parts = split_all (λ q. end_of q ≤ length b) pre (word 4 w x ∷ post) fits in
    let long : length (patched b pre) ≡ length b = patched_long b pre parts.0 in
    let after : All (λ q. end_of q ≤ length (patched b pre)) post = All-weaker (λ q. end_of q ≤ length b) (λ q. end_of q ≤ length (patched b pre)) (λ q e. omega (arith, long)) post (All-tail (λ q. end_of q ≤ length b) (word 4 w x) post parts.1) in
    let read : number_at 4 (patched (patched b pre) (word 4 w x ∷ post) ++ rest) w ≡ x = first_word (patched b pre) rest 4 w x post (omega (arith, long)) after (later_misses b change k h low) small in
    ap (λ (ps : List Patch). number_at 4 (patched b ps ++ rest) w) patches ∙ (ap (λ l. number_at 4 (l ++ rest) w) (patched-append b pre (word 4 w x ∷ post)) ∙ read)

pub word_read : (b : List ℕ) (change : Change) (k : ℕ) → HasSegment b change → k < verneed_count b → need_place b k + 16 ≤ length b → number_at 4 (laid b (wide b change)) (need_place b k + 4) ≡ file_value b (grown_by b change) (number_at 4 b (need_place b k + 4)) (file_for b change k)
word_read b change k h low within = go (file_for b change k) refl
  where
    stays : file_patch (grown_by b change) (need_place b k + 4) (file_for b change k) ≡ [] → number_at 4 (laid b (wide b change)) (need_place b k + 4) ≡ number_at 4 b (need_place b k + 4)
    stays gone = word_stays b change (laid b (wide b change)) k h.unflawed h.apart (has_room b change h.wants) (wide_over b change h).keeps low within gone

    go : (o : Option (List ℕ × List ℕ)) → file_for b change k ≡ o → number_at 4 (laid b (wide b change)) (need_place b k + 4) ≡ file_value b (grown_by b change) (number_at 4 b (need_place b k + 4)) o
    go None e = stays (ap (λ (o : Option (List ℕ × List ℕ)). file_patch (grown_by b change) (need_place b k + 4) o) e)
    go (Some p) e = step (bytes_eq p.0 p.1) refl
      where
        step : (t : Bool) → bytes_eq p.0 p.1 ≡ t → number_at 4 (laid b (wide b change)) (need_place b k + 4) ≡ cond t (number_at 4 b (need_place b k + 4)) (new_place (grown_by b change) p.1)
        step true s = stays (ap (λ (o : Option (List ℕ × List ℕ)). file_patch (grown_by b change) (need_place b k + 4) o) e ∙ rw s refl)
        step false s =
            let strings = h.strings in
            let most : new_place (grown_by b change) p.1 ≤ new_size b change = place_small (grown_by b change) p.1 in
            let small : new_place (grown_by b change) p.1 < 256 ^ 4 = omega arith in
            word_changes b change k (new_place (grown_by b change) p.1) h low within small (ap (λ (o : Option (List ℕ × List ℕ)). file_patch (grown_by b change) (need_place b k + 4) o) e ∙ rw s refl)
