-- Nothing of a rewriting is written past the old bytes, nor taken from there
use Rattle.std.proofs.Common.{◌≡◌, ℕ, ◌+◌, ◌-◌, ◌*◌, ◌≤◌, ◌<◌, ◌^◌, Bool, true, false, cond, List, [], ◌∷◌, ◌++◌, Option, Some, None, length, map, refl, sym, ap, ◌∙◌, arith, length-append}
use Rattle.std.specs.Prelude.{is_some}
use Rattle.std.specs.List.{All, enumerate_from, find, flat_map}
use Rattle.std.specs.Option.{option_map, unwrap_or}
use Rattle.std.specs.Str.{bytes_eq}
use Rattle.std.proofs.lemmas.Bool.Decides.{nat_tests}
use Rattle.std.proofs.lemmas.List.Elements.{All-append, All-cons, All-head, All-nil, All-tail}
use Rattle.byte_view.specs.Dynamic.{capacity_of, dynamic_capacity, dynamic_entries, tagged, entries_bytes}
use Rattle.byte_view.specs.DynamicFlaws.{has_tag}
use Rattle.byte_view.specs.HeaderFlaws.{header_flaw}
use Rattle.byte_view.specs.Headers.{file_end, headers, is_dynamic}
use Rattle.byte_view.specs.Memory.{range_in}
use Rattle.byte_view.specs.Sound.{IsReadFrom}
use Rattle.byte_view.specs.declared.constants.TheConstants.{DT_NULL, DT_RUNPATH, LONGEST_FILE}
use Rattle.byte_view.specs.declared.dynamic.Entry.{Entry}
use Rattle.byte_view.specs.declared.segments.Segment.{Segment}
use Rattle.byte_view.proofs.Loads.{sound_file}
use Rattle.byte_view.proofs.Ranges.{IsRead, range_read}
use Rattle.dyn_table.proofs.Placed.{dynamic_within}
use Rattle.load_model.specs.Faces.{named_text}
use Rattle.load_model.specs.VersionTables.{dynamic_value, file_place, file_words_of, text_of, verneeds}
use Rattle.strtab_grow.specs.Growth.{Growth}
use Rattle.two_files.specs.Entries.{added_path}
use Rattle.two_files.specs.Kept.{Range}
use Rattle.two_files.proofs.Entries.{tag_there}
use Rattle.elf_rewrite.specs.NewTable.{grown_by, name_place, new_place, places_with}
use Rattle.elf_rewrite.specs.NewTexts.{changed_name, changed_texts}
use Rattle.elf_rewrite.specs.Patched.{end_of}
use Rattle.elf_rewrite.specs.Pieces.{StaysWithin, is_within, total_size}
use Rattle.elf_rewrite.specs.Rewriting.{IsSmallLayout, file_for, file_patch, file_patches, headers_by, padded_entries, patches_by, pieces_by, strings_piece, table_patch, table_pieces, table_start}
use Rattle.elf_rewrite.specs.Words.{table_bytes, word}
use Rattle.elf_rewrite.specs.declared.change.Change.{Change}
use Rattle.elf_rewrite.specs.declared.layout.Layout.{Layout}
use Rattle.elf_rewrite.specs.declared.patch.Patch.{Patch}
use Rattle.elf_rewrite.specs.declared.patch.Piece.{Piece}
use Rattle.elf_rewrite.specs.declared.patch.Piece.TheVariants.{New, Old, Zeros}
use Rattle.elf_rewrite.proofs.Fields.{word_long}
use Rattle.elf_rewrite.proofs.Lengths.{capacity_is, entries_long, headers_most, padded_long, table_long}

-- what is backed lies in the file
pub range_within : (b : List ℕ) (addr len : ℕ) (range : Range) → header_flaw b ≡ None → range_in (headers b) addr len ≡ Some range → (range.0 + len ≡ range.1) × (range.1 ≤ length b)
range_within b addr len range fine e =
    let r : IsRead b (headers b) addr len range = range_read b (headers b) addr len range (sound_file b fine) e in
    (r.ends, r.within)

place_within : (b : List ℕ) (at : ℕ) → header_flaw b ≡ None → 64 ≤ length b → file_place b at 16 + 8 ≤ length b
unfolding file_place
place_within b at fine long = go (range_in (headers b) at 16) refl
  where
    go : (o : Option Range) → range_in (headers b) at 16 ≡ o → (unwrap_or o (0, 0)).0 + 8 ≤ length b
    go None e = omega arith
    go (Some r) e = let w = range_within b at 16 r fine e in omega (arith, w.0, w.1)

words_within : (b : List ℕ) → header_flaw b ≡ None → 64 ≤ length b → (xs : List ℕ) → All (λ at. at + 4 ≤ length b) (map (λ verneed. file_place b verneed 16 + 4) xs)
words_within b fine long [] = All-nil (λ at. at + 4 ≤ length b)
words_within b fine long (x ∷ xs) = All-cons (λ at. at + 4 ≤ length b) (file_place b x 16 + 4) (map (λ verneed. file_place b verneed 16 + 4) xs) (let w = place_within b x fine long in omega arith) (words_within b fine long xs)

patch_fits : (n : ℕ) (g : Growth) (at : ℕ) (o : Option (List ℕ × List ℕ)) → at + 4 ≤ n → All (λ p. end_of p ≤ n) (file_patch g at o)
patch_fits n g at None h = All-nil (λ p. end_of p ≤ n)
patch_fits n g at (Some p) h = go (bytes_eq p.0 p.1)
  where
    go : (b : Bool) → All (λ p. end_of p ≤ n) (cond b [] (word 4 at (new_place g p.1) ∷ []))
    go true = All-nil (λ p. end_of p ≤ n)
    go false = All-cons (λ p. end_of p ≤ n) (word 4 at (new_place g p.1)) [] (omega (arith, word_long 4 (new_place g p.1))) (All-nil (λ p. end_of p ≤ n))

patches_fit : (n : ℕ) (g : Growth) (f : ℕ → Option (List ℕ × List ℕ)) (k : ℕ) (words : List ℕ) → All (λ at. at + 4 ≤ n) words → All (λ p. end_of p ≤ n) (flat_map (λ p. file_patch g p.1 (f p.0)) (enumerate_from k words))
patches_fit n g f k [] h = All-nil (λ p. end_of p ≤ n)
patches_fit n g f k (at ∷ more) h =
    All-append (λ p. end_of p ≤ n) (file_patch g at (f k)) (flat_map (λ p. file_patch g p.1 (f p.0)) (enumerate_from (k + 1) more)) (patch_fits n g at (f k) (All-head (λ at. at + 4 ≤ n) at more h))
    (patches_fit n g f (k + 1) more (All-tail (λ at. at + 4 ≤ n) at more h))

pub files_fit : (b : List ℕ) (change : Change) → header_flaw b ≡ None → 64 ≤ length b → All (λ p. end_of p ≤ length b) (file_patches b change)
unfolding file_patches file_words_of
files_fit b change fine long = patches_fit (length b) (grown_by b change) (λ k. file_for b change k) 0 (map (λ verneed. file_place b verneed 16 + 4) (verneeds b)) (words_within b fine long (verneeds b))

-- the dynamic table at its old place
pub table_fits : (b : List ℕ) (entries : List Entry) → IsReadFrom (headers b) b → length entries ≤ dynamic_capacity b → All (λ p. end_of p ≤ length b) (table_patch (dynamic_capacity b) entries (find is_dynamic (headers b)))
table_fits b entries r room = go (find is_dynamic (headers b)) refl
  where
    go : (o : Option Segment) → find is_dynamic (headers b) ≡ o → All (λ p. end_of p ≤ length b) (table_patch (dynamic_capacity b) entries o)
    go None e = All-nil (λ p. end_of p ≤ length b)
    go (Some s) e =
        let within : file_end s ≤ length b = dynamic_within (headers b) b s r e in
        let size : dynamic_capacity b ≡ capacity_of s = capacity_is b s e in
        let padded_size : length (padded_entries (dynamic_capacity b) entries) ≡ dynamic_capacity b = padded_long (dynamic_capacity b) entries room in
        let bytes : length (entries_bytes (padded_entries (dynamic_capacity b) entries)) ≡ 16 * length (padded_entries (dynamic_capacity b) entries) = entries_long (padded_entries (dynamic_capacity b) entries) in
        All-cons (λ p. end_of p ≤ length b) (record { at = s.offset; bytes = entries_bytes (padded_entries (dynamic_capacity b) entries) }) [] (omega arith) (All-nil (λ p. end_of p ≤ length b))

-- what the parts of a new segment are to be
pub record AreSmall (b : List ℕ) (l : Layout) (segments : List Segment) (strings : Option Range) (new : List ℕ) (entries : List Entry) : Type 0 where
  pub small : IsSmallLayout l
  pub short : length b ≤ LONGEST_FILE
  pub few : length segments < 2 ^ 32
  pub within : (r : Range) → strings ≡ Some r → (r.0 ≤ r.1) × (r.1 ≤ length b)
  pub below : length new < 2 ^ 33
  pub most : length entries < 2 ^ 33

strings_within : (n : ℕ) (o : Option Range) → ((r : Range) → o ≡ Some r → (r.0 ≤ r.1) × (r.1 ≤ n)) → All (λ p. is_within n p ≡ true) (strings_piece o)
strings_within n None h = All-nil (λ p. is_within n p ≡ true)
strings_within n (Some r) h =
    let k = h r refl in
    let fits : r.0 + (r.1 - r.0) ≤ n = omega (arith, k.0, k.1) in
    All-cons (λ p. is_within n p ≡ true) (Old r.0 (r.1 - r.0)) [] (grind (arith, nat_tests)) (All-nil (λ p. is_within n p ≡ true))

table_within : (n : ℕ) (l : Layout) (entries : List Entry) → All (λ p. is_within n p ≡ true) (table_pieces l entries)
table_within n l entries = go l.moved
  where
    go : (b : Bool) → All (λ p. is_within n p ≡ true) (cond b (Zeros (table_start l - l.strings_end) ∷ (New (entries_bytes (entries ++ tagged DT_NULL 0 ∷ [])) ∷ [])) [])
    go true = All-cons (λ p. is_within n p ≡ true) (Zeros (table_start l - l.strings_end)) (New (entries_bytes (entries ++ tagged DT_NULL 0 ∷ [])) ∷ []) refl (All-cons (λ p. is_within n p ≡ true) (New (entries_bytes (entries ++ tagged DT_NULL 0 ∷ []))) [] refl (All-nil (λ p. is_within n p ≡ true)))
    go false = All-nil (λ p. is_within n p ≡ true)

pieces_within : (b : List ℕ) (l : Layout) (segments : List Segment) (strings : Option Range) (new : List ℕ) (entries : List Entry) → AreSmall b l segments strings new entries → All (λ p. is_within (length b) p ≡ true) (pieces_by (length b) l segments strings new entries)
pieces_within b l segments strings new entries small =
    let n = length b in
    All-cons (λ p. is_within (length b) p ≡ true) (Zeros (l.place - length b)) (New (table_bytes (headers_by l segments)) ∷ (strings_piece strings ++ (New new ∷ table_pieces l entries))) refl
    (All-cons (λ p. is_within (length b) p ≡ true) (New (table_bytes (headers_by l segments))) (strings_piece strings ++ (New new ∷ table_pieces l entries)) refl
    (All-append (λ p. is_within (length b) p ≡ true) (strings_piece strings) (New new ∷ table_pieces l entries) (strings_within (length b) strings small.within)
    (All-cons (λ p. is_within (length b) p ≡ true) (New new) (table_pieces l entries) refl (table_within (length b) l entries))))

total_both : (ps qs : List Piece) → total_size (ps ++ qs) ≡ total_size ps + total_size qs
total_both [] qs = omega arith
total_both (p ∷ more) qs = omega (arith, total_both more qs)

strings_size_most : (n : ℕ) (o : Option Range) → ((r : Range) → o ≡ Some r → (r.0 ≤ r.1) × (r.1 ≤ n)) → total_size (strings_piece o) ≤ n
strings_size_most n None h = omega arith
strings_size_most n (Some r) h = let k = h r refl in omega (arith, k.1)

table_size_most : (l : Layout) (entries : List Entry) → total_size (table_pieces l entries) ≤ 8 + 16 * (length entries + 1)
table_size_most l entries = go l.moved
  where
    long : length (entries_bytes (entries ++ tagged DT_NULL 0 ∷ [])) ≡ 16 * (length entries + 1)
    long = entries_long (entries ++ tagged DT_NULL 0 ∷ []) ∙ ap (λ n. 16 * n) (length-append entries (tagged DT_NULL 0 ∷ []))

    go : (b : Bool) → total_size (cond b (Zeros (table_start l - l.strings_end) ∷ (New (entries_bytes (entries ++ tagged DT_NULL 0 ∷ [])) ∷ [])) []) ≤ 8 + 16 * (length entries + 1)
    go true = omega (arith, long)
    go false = omega arith

pieces_small : (b : List ℕ) (l : Layout) (segments : List Segment) (strings : Option Range) (new : List ℕ) (entries : List Entry) → AreSmall b l segments strings new entries → length b + total_size (pieces_by (length b) l segments strings new entries) < 2 ^ 64
pieces_small b l segments strings new entries small =
    let place : l.place < 2 ^ 63 = small.small.place in
    let headers_size : length (table_bytes (headers_by l segments)) ≡ 56 * length (headers_by l segments) = table_long (headers_by l segments) in
    let headers_few : length (headers_by l segments) ≤ length segments + 1 = headers_most l segments in
    let strings_few : total_size (strings_piece strings) ≤ length b = strings_size_most (length b) strings small.within in
    let table_few : total_size (table_pieces l entries) ≤ 8 + 16 * (length entries + 1) = table_size_most l entries in
    let both : total_size (strings_piece strings ++ (New new ∷ table_pieces l entries)) ≡ total_size (strings_piece strings) + (length new + total_size (table_pieces l entries)) = total_both (strings_piece strings) (New new ∷ table_pieces l entries) in
    omega (arith, small.short, small.few, small.below, small.most)

-- a segment that is added
pub sound_segment : (b : List ℕ) (l : Layout) (count : ℕ) (files : List Patch) (entries : List Entry) (strings : Option Range) (new : List ℕ) → IsReadFrom (headers b) b → 64 ≤ length b → All (λ p. end_of p ≤ length b) files → (l.moved ≡ false → length entries ≤ dynamic_capacity b) → AreSmall b l (headers b) strings new entries
    → StaysWithin (record { old_len = length b; patches = patches_by l count files (dynamic_capacity b) entries (find is_dynamic (headers b)); added = pieces_by (length b) l (headers b) strings new entries })
sound_segment b l count files entries strings new r long fits room small = record {
  fits = All-cons (λ p. end_of p ≤ length b) (word 8 32 l.place) (word 2 56 (count + 1) ∷ (files ++ cond l.moved [] (table_patch (dynamic_capacity b) entries (find is_dynamic (headers b))))) (omega (arith, word_long 8 l.place))
      (All-cons (λ p. end_of p ≤ length b) (word 2 56 (count + 1)) (files ++ cond l.moved [] (table_patch (dynamic_capacity b) entries (find is_dynamic (headers b)))) (omega (arith, word_long 2 (count + 1)))
      (All-append (λ p. end_of p ≤ length b) files (cond l.moved [] (table_patch (dynamic_capacity b) entries (find is_dynamic (headers b)))) fits (go l.moved refl)));
  within = pieces_within b l (headers b) strings new entries small;
  small = pieces_small b l (headers b) strings new entries small;
}
  where
    go : (m : Bool) → l.moved ≡ m → All (λ p. end_of p ≤ length b) (cond m [] (table_patch (dynamic_capacity b) entries (find is_dynamic (headers b))))
    go true e = All-nil (λ p. end_of p ≤ length b)
    go false e = table_fits b entries r (room e)

-- a table that is written anew where it stood
pub sound_table : (b : List ℕ) (entries : List Entry) → IsReadFrom (headers b) b → length b < 2 ^ 64 → length entries ≤ dynamic_capacity b → StaysWithin (record { old_len = length b; patches = table_patch (dynamic_capacity b) entries (find is_dynamic (headers b)); added = [] })
sound_table b entries r short room = record {
  fits = table_fits b entries r room;
  within = All-nil (λ p. is_within (length b) p ≡ true);
  small = omega arith;
}

-- without new texts no run path is added
no_name : (b : List ℕ) (g : Growth) (old : Option ℕ) (new : Option (List ℕ)) → old ≡ None → length (changed_name (option_map (text_of b) old) new) ≡ 0 → name_place b g old new ≡ None
no_name b g old None e h = refl
no_name b g old (Some t) e h = absurd (omega (arith, rw e at h))

pub no_path : (b : List ℕ) (change : Change) (at : ℕ) → length (changed_texts b change) ≡ 0 → added_path (places_with b change at) (dynamic_entries b) ≡ []
unfolding changed_texts named_text
no_path b change at h = go (has_tag DT_RUNPATH (dynamic_entries b)) refl
  where
    parts : (a s r f : List (List ℕ)) → length (a ++ (s ++ (r ++ f))) ≡ 0 → length r ≡ 0
    parts a s r f h = omega (arith, length-append a (s ++ (r ++ f)), length-append s (r ++ f), length-append r f)

    go : (t : Bool) → has_tag DT_RUNPATH (dynamic_entries b) ≡ t → added_path (places_with b change at) (dynamic_entries b) ≡ []
    go true e = rw e refl
    go false e =
        let gone : dynamic_value b DT_RUNPATH ≡ None = none_of (dynamic_value b DT_RUNPATH) (sym (tag_there DT_RUNPATH (dynamic_entries b)) ∙ e) in
        let none : name_place b (grown_by b change) (dynamic_value b DT_RUNPATH) change.runpath ≡ None =
        no_name b (grown_by b change) (dynamic_value b DT_RUNPATH) change.runpath gone (parts _ _ (changed_name (named_text b DT_RUNPATH) change.runpath) _ h) in
        rw (e, none) refl
      where
        none_of : (o : Option ℕ) → is_some o ≡ false → o ≡ None
        none_of None h = refl
        none_of (Some x) h = absurd (cc)
