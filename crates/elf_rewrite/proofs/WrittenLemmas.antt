-- What a rewriting writes over, place by place
use Rattle.std.proofs.Common.{◌≡◌, ℕ, zero, suc, ◌+◌, ◌-◌, ◌*◌, ◌<◌, ◌≤◌, Bool, true, false, cond, List, [], ◌∷◌, ◌++◌, Option, Some, None, length, map, refl, ap, sym, ◌∙◌, arith}
use Rattle.std.specs.Prelude.{slice_get}
use Rattle.std.specs.List.{enumerate_from, find, flat_map, list_all, range_with_len}
use Rattle.std.specs.Str.{bytes_eq}
use Rattle.std.proofs.lemmas.List.Folds.{list_all-append, list_all-map}
use Rattle.byte_view.specs.Dynamic.{capacity_of, dynamic_capacity, entries_bytes}
use Rattle.byte_view.specs.Headers.{e_phnum, headers, is_dynamic}
use Rattle.byte_view.specs.declared.dynamic.Entry.{Entry}
use Rattle.byte_view.specs.declared.segments.Segment.{Segment}
use Rattle.load_model.proofs.Counts.{slice_get_left}
use Rattle.load_model.proofs.ListedLemmas.{at_mapped}
use Rattle.load_model.specs.VersionTables.{file_place, file_words_of, verneed_count, verneed_place, verneeds}
use Rattle.strtab_grow.specs.Growth.{Growth}
use Rattle.two_files.specs.Kept.{Range}
use Rattle.elf_rewrite.specs.NewTable.{entries_in, grown_by, new_place}
use Rattle.elf_rewrite.specs.NewTexts.{is_done, wants_segment}
use Rattle.elf_rewrite.specs.Patched.{range_of}
use Rattle.elf_rewrite.specs.Ranges.{asked_ranges, from_place, need_ranges, ranges_of}
use Rattle.elf_rewrite.specs.Rewriting.{file_for, file_patch, file_patches, layout_of, padded_entries, rewriting, segment_patches, table_patch, table_written}
use Rattle.elf_rewrite.specs.Words.{word}
use Rattle.elf_rewrite.specs.declared.change.Change.{Change}
use Rattle.elf_rewrite.proofs.Fields.{word_long}
use Rattle.elf_rewrite.proofs.Lengths.{capacity_is, entries_long, padded_long}

abbrev pub written_ranges : List ℕ → Change → List Range
written_ranges b change = map range_of (rewriting b change).patches

-- where a need stands in the file, and the word there that names its file
abbrev pub need_place : List ℕ → ℕ → ℕ
need_place b k = file_place b (verneed_place b k) 16

pub counted : (a n k : ℕ) → k < n → slice_get (range_with_len a n) k ≡ Some (a + k)
counted a zero k h = absurd (omega arith)
counted a (suc n) zero h = ap Some (omega arith)
counted a (suc n) (suc k) h = counted (a + 1) n k (omega arith) ∙ ap Some (omega arith)

pub counted_from : (n k : ℕ) → k < n → slice_get (range_with_len 0 n) k ≡ Some k
counted_from n k h = counted 0 n k h ∙ ap Some (omega arith)

pub word_there : (b : List ℕ) (k : ℕ) → k < verneed_count b → slice_get (file_words_of b) k ≡ Some (need_place b k + 4)
unfolding file_words_of
word_there b k h =
    at_mapped (λ verneed. file_place b verneed 16 + 4) (verneeds b) k (verneed_place b k)
    (at_mapped (verneed_place b) (range_with_len 0 (verneed_count b)) k k (counted_from (verneed_count b) k h))

pub need_there : (b : List ℕ) (k : ℕ) → k < verneed_count b → slice_get (need_ranges b) k ≡ Some (from_place 16 (need_place b k))
need_there b k h =
    at_mapped (λ at. from_place 16 (at - 4)) (file_words_of b) k (need_place b k + 4) (word_there b k h)
    ∙ ap (λ (n : ℕ). Some (from_place 16 n)) (omega arith)

pub need_listed : (b : List ℕ) (k : ℕ) → k < verneed_count b → slice_get (ranges_of b 8) k ≡ Some (from_place 16 (need_place b k))
unfolding ranges_of
need_listed b k h = slice_get_left (need_ranges b) (asked_ranges b) k (from_place 16 (need_place b k)) (need_there b k h)

-- a test of ranges that all that is written passes
pub one_file : (P : Range → Bool) (g : Growth) (at : ℕ) (o : Option (List ℕ × List ℕ)) → P (at, at + 4) ≡ true → list_all (λ q. P (range_of q)) (file_patch g at o) ≡ true
one_file P g at None h = refl
one_file P g at (Some p) h = go (bytes_eq p.0 p.1)
  where
    go : (b : Bool) → list_all (λ q. P (range_of q)) (cond b [] (word 4 at (new_place g p.1) ∷ [])) ≡ true
    go true = refl
    go false = rw (word_long 4 (new_place g p.1), h) refl

pub all_files : (P : Range → Bool) (g : Growth) (f : ℕ → Option (List ℕ × List ℕ)) (k : ℕ) (words : List ℕ) → ((j w : ℕ) → slice_get words j ≡ Some w → list_all (λ q. P (range_of q)) (file_patch g w (f (k + j))) ≡ true) → list_all (λ q. P (range_of q)) (flat_map (λ p. file_patch g p.1 (f p.0)) (enumerate_from k words)) ≡ true
all_files P g f k [] each = refl
all_files P g f k (at ∷ more) each =
    let start : k + 0 ≡ k = omega arith in
    let here : list_all (λ q. P (range_of q)) (file_patch g at (f k)) ≡ true = rw start at (each 0 at refl) in
    list_all-append (λ q. P (range_of q)) (file_patch g at (f k)) (flat_map (λ p. file_patch g p.1 (f p.0)) (enumerate_from (k + 1) more))
    ∙ rw (here, all_files P g f (k + 1) more (λ j w h. later j w h)) refl
  where
    later : (j w : ℕ) → slice_get more j ≡ Some w → list_all (λ q. P (range_of q)) (file_patch g w (f (k + 1 + j))) ≡ true
    later j w h =
        let next : k + suc j ≡ k + 1 + j = omega arith in
        rw next at (each (suc j) w h)

abbrev pub table_place : Segment → Range
table_place s = from_place (16 * capacity_of s) s.offset

pub all_table : (P : Range → Bool) (b : List ℕ) (entries : List Entry) → length entries ≤ dynamic_capacity b → ((s : Segment) → find is_dynamic (headers b) ≡ Some s → P (table_place s) ≡ true) → list_all (λ q. P (range_of q)) (table_patch (dynamic_capacity b) entries (find is_dynamic (headers b))) ≡ true
all_table P b entries room each = go (find is_dynamic (headers b)) refl
  where
    go : (o : Option Segment) → find is_dynamic (headers b) ≡ o → list_all (λ q. P (range_of q)) (table_patch (dynamic_capacity b) entries o) ≡ true
    go None e = refl
    go (Some s) e =
        let size : length (entries_bytes (padded_entries (dynamic_capacity b) entries)) ≡ 16 * capacity_of s = entries_long (padded_entries (dynamic_capacity b) entries) ∙ ap (λ n. 16 * n) (padded_long (dynamic_capacity b) entries room ∙ capacity_is b s e) in
        rw (size, each s e) refl

-- what each thing that is written passes
pub record PassesWritten (P : Range → Bool) (b : List ℕ) : Type 0 where
  pub place : P (32, 40) ≡ true
  pub number : P (56, 58) ≡ true
  pub files : (k : ℕ) → k < verneed_count b → P (need_place b k + 4, need_place b k + 4 + 4) ≡ true
  pub table : (s : Segment) → find is_dynamic (headers b) ≡ Some s → P (table_place s) ≡ true

-- the same, each need by what is written at it
pub record PassesPatches (P : Range → Bool) (b : List ℕ) (change : Change) : Type 0 where
  pub place : P (32, 40) ≡ true
  pub number : P (56, 58) ≡ true
  pub files : (k : ℕ) → k < verneed_count b → list_all (λ q. P (range_of q)) (file_patch (grown_by b change) (need_place b k + 4) (file_for b change k)) ≡ true
  pub table : (s : Segment) → find is_dynamic (headers b) ≡ Some s → P (table_place s) ≡ true

pub by_patches : (P : Range → Bool) (b : List ℕ) (change : Change) → PassesWritten P b → PassesPatches P b change
by_patches P b change p = record {
  place = p.place;
  number = p.number;
  files = λ k low. one_file P (grown_by b change) (need_place b k + 4) (file_for b change k) (p.files k low);
  table = p.table;
}

-- there is room for the entries where they are written
pub record HasRoom (b : List ℕ) (change : Change) : Type 0 where
  pub stays : (layout_of b change).moved ≡ false → length (entries_in b change) ≤ dynamic_capacity b
  pub alone : wants_segment b change ≡ false → is_done b change ≡ false → length (entries_in b change) ≤ dynamic_capacity b

pub word_known : (b : List ℕ) (j w : ℕ) → slice_get (file_words_of b) j ≡ Some w → (j < verneed_count b) × (w ≡ need_place b j + 4)
unfolding file_words_of
word_known b j w h = go (verneed_count b) refl
  where
    short : (f : ℕ → ℕ) (a n j w : ℕ) → slice_get (map f (range_with_len a n)) j ≡ Some w → j < n
    short f a zero j w h = absurd (cc)
    short f a (suc n) zero w h = omega arith
    short f a (suc n) (suc j) w h = let later = short f (a + 1) n j w h in omega arith

    mapped_twice : (f g : ℕ → ℕ) (xs : List ℕ) → map f (map g xs) ≡ map (λ x. f (g x)) xs
    mapped_twice f g [] = refl
    mapped_twice f g (x ∷ xs) = ap (λ l. f (g x) ∷ l) (mapped_twice f g xs)

    go : (n : ℕ) → verneed_count b ≡ n → (j < verneed_count b) × (w ≡ need_place b j + 4)
    go n e =
        let both = mapped_twice (λ verneed. file_place b verneed 16 + 4) (verneed_place b) (range_with_len 0 (verneed_count b)) in
        let low : j < verneed_count b = short (λ k. need_place b k + 4) 0 (verneed_count b) j w (ap (λ l. slice_get l j) (sym both) ∙ h) in
        let there : slice_get (file_words_of b) j ≡ Some (need_place b j + 4) = word_there b j low in
        (low, cc)

pub files_from : (P : Range → Bool) (b : List ℕ) (change : Change) (k : ℕ) (words : List ℕ) → ((j w : ℕ) → slice_get words j ≡ Some w → slice_get (file_words_of b) (k + j) ≡ Some w) → ((j : ℕ) → k ≤ j → j < verneed_count b → list_all (λ q. P (range_of q)) (file_patch (grown_by b change) (need_place b j + 4) (file_for b change j)) ≡ true) → list_all (λ q. P (range_of q)) (flat_map (λ p. file_patch (grown_by b change) p.1 (file_for b change p.0)) (enumerate_from k words)) ≡ true
files_from P b change k words there each =
    all_files P (grown_by b change) (λ j. file_for b change j) k words (λ j w h. one j w (word_known b (k + j) w (there j w h)))
  where
    one : (j w : ℕ) → (k + j < verneed_count b) × (w ≡ need_place b (k + j) + 4) → list_all (λ q. P (range_of q)) (file_patch (grown_by b change) w (file_for b change (k + j))) ≡ true
    one j w h = rw h.1 (each (k + j) (omega arith) h.0)

files_pass : (P : Range → Bool) (b : List ℕ) (change : Change) → ((k : ℕ) → k < verneed_count b → list_all (λ q. P (range_of q)) (file_patch (grown_by b change) (need_place b k + 4) (file_for b change k)) ≡ true) → list_all (λ q. P (range_of q)) (file_patches b change) ≡ true
unfolding file_patches
files_pass P b change files =
    files_from P b change 0 (file_words_of b) (λ j w h. same j w h) (λ j low high. files j high)
  where
    same : (j w : ℕ) → slice_get (file_words_of b) j ≡ Some w → slice_get (file_words_of b) (0 + j) ≡ Some w
    same j w h = let none : 0 + j ≡ j = omega arith in rw none h

pub later_pass : (P : Range → Bool) (b : List ℕ) (change : Change) (moved : Bool) → (moved ≡ false → length (entries_in b change) ≤ dynamic_capacity b) → ((k : ℕ) → k < verneed_count b → list_all (λ q. P (range_of q)) (file_patch (grown_by b change) (need_place b k + 4) (file_for b change k)) ≡ true) → ((s : Segment) → find is_dynamic (headers b) ≡ Some s → P (table_place s) ≡ true) → list_all (λ q. P (range_of q)) (file_patches b change ++ cond moved [] (table_written b change)) ≡ true
later_pass P b change moved room files table =
    list_all-append (λ q. P (range_of q)) (file_patches b change) (cond moved [] (table_written b change)) ∙ rw (files_pass P b change files) (go moved room)
  where
    go : (m : Bool) → (m ≡ false → length (entries_in b change) ≤ dynamic_capacity b) → list_all (λ q. P (range_of q)) (cond m [] (table_written b change)) ≡ true
    go true room = refl
    go false room = all_table P b (entries_in b change) (room refl) table

segment_pass : (P : Range → Bool) (b : List ℕ) (change : Change) → ((layout_of b change).moved ≡ false → length (entries_in b change) ≤ dynamic_capacity b) → PassesPatches P b change → list_all (λ q. P (range_of q)) (segment_patches b change) ≡ true
unfolding segment_patches
segment_pass P b change room p =
    rw (word_long 8 (layout_of b change).place, p.place, word_long 2 (e_phnum b + 1), p.number) (later_pass P b change (layout_of b change).moved room p.files p.table)

-- all that is written
pub patches_pass : (P : Range → Bool) (b : List ℕ) (change : Change) → HasRoom b change → PassesPatches P b change → list_all P (written_ranges b change) ≡ true
unfolding rewriting
patches_pass P b change room p =
    list_all-map P range_of (cond (is_done b change) [] (cond (wants_segment b change) (segment_patches b change) (table_written b change)))
    ∙ go (is_done b change) refl (wants_segment b change) refl
  where
    go : (d : Bool) → is_done b change ≡ d → (w : Bool) → wants_segment b change ≡ w → list_all (λ q. P (range_of q)) (cond d [] (cond w (segment_patches b change) (table_written b change))) ≡ true
    go true e w f = refl
    go false e true f = segment_pass P b change room.stays p
    go false e false f = all_table P b (entries_in b change) (room.alone f e) p.table

pub written_pass : (P : Range → Bool) (b : List ℕ) (change : Change) → HasRoom b change → PassesWritten P b → list_all P (written_ranges b change) ≡ true
written_pass P b change room p = patches_pass P b change room (by_patches P b change p)
