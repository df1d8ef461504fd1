-- A segment that is added: where it stands, and the headers of the new file
use Rattle.std.proofs.Common.{◌≡◌, ℕ, ◌+◌, ◌-◌, ◌*◌, ◌^◌, ◌<◌, ◌≤◌, ◌==◌, ◌&&◌, ◌||◌, Bool, true, false, cond, List, [], ◌∷◌, ◌++◌, Option, Some, None, length, map, max, refl, ap, ◌∙◌, arith, length-append}
use Rattle.std.specs.Prelude.{nat_le, nat_lt}
use Rattle.std.specs.Int.{next_multiple_of}
use Rattle.std.specs.List.{All, find, list_all, list_any}
use Rattle.std.proofs.lemmas.Bool.Decides.{nat_tests}
use Rattle.std.proofs.lemmas.List.{length-map}
use Rattle.std.proofs.lemmas.List.Elements.{All-tail}
use Rattle.std.proofs.lemmas.List.Folds.{list_all-map}
use Rattle.answers.specs.First.{first_some, some_where}
use Rattle.byte_view.specs.Dynamic.{dynamic_capacity, dynamic_entries, strings_at}
use Rattle.byte_view.specs.HeaderFlaws.{header_flaw}
use Rattle.byte_view.specs.Headers.{e_phnum, e_phoff, file_end, headers, is_load}
use Rattle.byte_view.specs.Memory.{range_in}
use Rattle.byte_view.specs.declared.constants.TheConstants.{LONGEST_FILE, PN_XNUM, PT_DYNAMIC, PT_PHDR}
use Rattle.byte_view.specs.declared.segments.Segment.{Segment}
use Rattle.byte_view.proofs.Loads.{sound_file}
use Rattle.load_model.specs.Escaping.{AreBytes}
use Rattle.load_model.specs.Faces.{first_flaw}
use Rattle.strtab_grow.specs.Growth.{added}
use Rattle.strtab_grow.specs.declared.texts.TheConstants.{TABLE_LIMIT}
use Rattle.two_files.specs.Kept.{KeepsBytes, Range, misses}
use Rattle.two_files.specs.NewHeaders.{LeavesLoads, add_load, moved_to}
use Rattle.two_files.proofs.Pages.{multiple_above}
use Rattle.elf_rewrite.specs.NewFile.{Fits}
use Rattle.elf_rewrite.specs.NewSegment.{headers_size, segment_addr, segment_place, top_of}
use Rattle.elf_rewrite.specs.NewTable.{entries_in, grown_by, new_size, new_strings_at, old_size}
use Rattle.elf_rewrite.specs.NewTexts.{is_done, new_texts, wants_segment}
use Rattle.elf_rewrite.specs.Patched.{end_of, patched, range_of}
use Rattle.elf_rewrite.specs.Pieces.{StaysWithin, Overlay, laid, length_of, put_together}
use Rattle.elf_rewrite.specs.Ranges.{first_overlap}
use Rattle.elf_rewrite.specs.Rewriting.{IsSmallLayout, file_for, file_patches, header_part, headers_by, layout_of, moved_by, new_segment, rewriting, segment_patches, segment_pieces, segment_size, strings_piece, table_part, table_pieces, table_start, table_written}
use Rattle.elf_rewrite.specs.Stops.{ends_high, has_sections_outside, no_room, overlap_stop, segment_stop, stop_of, strings_too_long, too_large, too_many_headers}
use Rattle.elf_rewrite.specs.Words.{IsWide, table_bytes, word}
use Rattle.elf_rewrite.specs.declared.change.Change.{Change}
use Rattle.elf_rewrite.specs.declared.change.TheConstants.{HIGHEST_OLD_END}
use Rattle.elf_rewrite.specs.declared.layout.Layout.{Layout}
use Rattle.elf_rewrite.specs.declared.patch.Patch.{Patch}
use Rattle.elf_rewrite.specs.declared.patch.Piece.{Piece}
use Rattle.elf_rewrite.specs.declared.patch.Piece.TheVariants.{New, Zeros}
use Rattle.elf_rewrite.proofs.Above.{IsAbove, stands_above}
use Rattle.elf_rewrite.proofs.Filled.{total_long}
use Rattle.elf_rewrite.proofs.HeadersLaid.{headers_laid}
use Rattle.elf_rewrite.proofs.Lengths.{headers_count}
use Rattle.elf_rewrite.proofs.Lowness.{above_low, load_within}
use Rattle.elf_rewrite.proofs.Patched.{patched_keeps, patched_long}
use Rattle.elf_rewrite.proofs.Planned.{entries_short, rewriting_wide}
use Rattle.elf_rewrite.proofs.ShortLemmas.{headers_wide, new_wide}
use Rattle.elf_rewrite.proofs.Soundness.{files_fit, range_within, sound_segment}
use Rattle.elf_rewrite.proofs.SpareLemmas.{IsOver, needs_high, table_high}
use Rattle.elf_rewrite.proofs.TextLemmas.{entries_are, places_are}
use Rattle.elf_rewrite.proofs.UnflawedLemmas.{unflawed_parts}
use Rattle.elf_rewrite.proofs.Wholeness.{whole}
use Rattle.elf_rewrite.proofs.WrittenLemmas.{HasRoom, later_pass, need_place, one_file, table_place}

-- a change that adds a segment, which nothing stops
pub record HasSegment (b : List ℕ) (change : Change) : Type 0 where
  pub bytes : AreBytes b
  pub unflawed : first_flaw b ≡ None
  pub fits : Fits change b
  pub wants : wants_segment b change ≡ true
  pub apart : first_overlap b ≡ None
  pub low : list_any ends_high (headers b) ≡ false
  pub inside : has_sections_outside b ≡ false
  pub few : e_phnum b + 1 < PN_XNUM
  pub strings : new_size b change < TABLE_LIMIT
  pub short : length_of (rewriting b change) ≤ LONGEST_FILE

none_of_first : {A : Type 0} (x : Option A) (more : List (Option A)) → first_some (x ∷ more) ≡ None → (x ≡ None) × (first_some more ≡ None)
none_of_first None more e = (refl, e)
none_of_first (Some x) more e = absurd (cc)

off : {A : Type 0} (t : Bool) (x : A) → some_where t x ≡ None → t ≡ false
off true x e = absurd (cc)
off false x e = refl

no_overlap_stop : (o : Option (ℕ × ℕ)) → overlap_stop o ≡ None → o ≡ None
no_overlap_stop None e = refl
no_overlap_stop (Some p) e = absurd (cc)

pub no_stop : (b : List ℕ) (change : Change) → stop_of b change ≡ None → is_done b change ≡ false → (first_overlap b ≡ None) × (cond (wants_segment b change) (segment_stop b change) None ≡ None)
unfolding stop_of
no_stop b change e d =
    let last = cond (wants_segment b change) (segment_stop b change) None ∷ [] in
    let all : first_some (overlap_stop (first_overlap b) ∷ last) ≡ None = go (is_done b change) e d in
    let first = none_of_first (overlap_stop (first_overlap b)) last all in
    (no_overlap_stop (first_overlap b) first.0, (none_of_first (cond (wants_segment b change) (segment_stop b change) None) [] first.1).0)
  where
    go : (x : Bool) → cond x None (first_some (overlap_stop (first_overlap b) ∷ cond (wants_segment b change) (segment_stop b change) None ∷ [])) ≡ None → x ≡ false → first_some (overlap_stop (first_overlap b) ∷ cond (wants_segment b change) (segment_stop b change) None ∷ []) ≡ None
    go true e d = absurd (cc)
    go false e d = e

either_off : (a b : Bool) → (a || b) ≡ false → (a ≡ false) × (b ≡ false)
either_off true b e = absurd (cc)
either_off false b e = (refl, e)

pub has_segment : (b : List ℕ) (change : Change) → AreBytes b → first_flaw b ≡ None → Fits change b → wants_segment b change ≡ true → first_overlap b ≡ None → segment_stop b change ≡ None → HasSegment b change
unfolding segment_stop
has_segment b change bytes fine fits wants apart stop =
    let first = none_of_first (no_room b) (too_many_headers b ∷ strings_too_long b change ∷ too_large b change ∷ []) stop in
    let second = none_of_first (too_many_headers b) (strings_too_long b change ∷ too_large b change ∷ []) first.1 in
    let third = none_of_first (strings_too_long b change) (too_large b change ∷ []) second.1 in
    let fourth = none_of_first (too_large b change) [] third.1 in
    let room = either_off _ _ (off (list_any ends_high (headers b) || has_sections_outside b) _ first.0) in
    let few = off (nat_le PN_XNUM (e_phnum b + 1)) _ second.0 in
    let strings = off (nat_le TABLE_LIMIT (new_size b change)) _ third.0 in
    let short = off (nat_lt LONGEST_FILE (length_of (rewriting b change))) _ fourth.0 in
    record {
      bytes = bytes;
      unflawed = fine;
      fits = fits;
      wants = wants;
      apart = apart;
      low = room.0;
      inside = room.1;
      few = above_not PN_XNUM (e_phnum b + 1) few;
      strings = above_not TABLE_LIMIT (new_size b change) strings;
      short = not_above LONGEST_FILE (length_of (rewriting b change)) short;
    }
  where
    above_not : (m n : ℕ) → nat_le m n ≡ false → n < m
    above_not m n h = grind (arith, nat_tests)

    not_above : (m n : ℕ) → nat_lt m n ≡ false → n ≤ m
    not_above m n h = grind (arith, nat_tests)

-- where it stands
pub record StandsLow (b : List ℕ) (change : Change) : Type 0 where
  pub load : Segment
  pub found : find is_load (headers b) ≡ Some load
  pub above : IsAbove b
  pub addr : segment_addr b ≤ HIGHEST_OLD_END + LONGEST_FILE + 4096
  pub place : segment_place b ≤ segment_addr b + length b
  pub most : length (entries_in b change) < 2 ^ 33
  pub small : IsSmallLayout (layout_of b change)

any_found : (p : Segment → Bool) (xs : List Segment) → list_any p xs ≡ true → (s : Segment) × (find p xs ≡ Some s)
any_found p [] h = absurd (cc)
any_found p (x ∷ xs) h = go (p x) h (any_found p xs)
  where
    go : (b : Bool) → (b || list_any p xs) ≡ true → (list_any p xs ≡ true → (s : Segment) × (find p xs ≡ Some s)) → (s : Segment) × (cond b (Some x) (find p xs) ≡ Some s)
    go true h on = (x, refl)
    go false h on = on h

addr_bound : (b : List ℕ) (s : Segment) → list_any ends_high (headers b) ≡ false → length b ≤ LONGEST_FILE → find is_load (headers b) ≡ Some s → segment_addr b ≤ HIGHEST_OLD_END + LONGEST_FILE + 4096
unfolding segment_addr
addr_bound b s low short found =
    let n : ℕ = max (top_of (headers b)) (length b + s.vaddr - s.offset) in
    let most : n ≤ HIGHEST_OLD_END + LONGEST_FILE = above_low (length b) (headers b) s low short found in
    let m = multiple_above n in
    let here : next_multiple_of n 4096 ≤ HIGHEST_OLD_END + LONGEST_FILE + 4096 = omega (arith, m.1) in
    rw found here

place_bound : (b : List ℕ) (s : Segment) → header_flaw b ≡ None → find is_load (headers b) ≡ Some s → segment_place b ≤ segment_addr b + length b
unfolding segment_place
place_bound b s fine found =
    let within : file_end s ≤ length b = load_within (headers b) b s (record { same = refl; unflawed = fine }) found in
    let here : segment_addr b + s.offset - s.vaddr ≤ segment_addr b + length b = omega arith in
    rw found here

small_layout : (b : List ℕ) (change : Change) → length b ≤ LONGEST_FILE → segment_addr b ≤ HIGHEST_OLD_END + LONGEST_FILE + 4096 → segment_place b ≤ segment_addr b + length b → e_phnum b + 1 < PN_XNUM → new_size b change < TABLE_LIMIT → length (entries_in b change) < 2 ^ 33 → IsSmallLayout (layout_of b change)
unfolding layout_of
small_layout b change short addr place few size most = record {
  place = omega arith;
  addr = omega arith;
  strings_end = omega arith;
  table_size = omega arith;
}

pub stands_low : (b : List ℕ) (change : Change) → HasSegment b change → StandsLow b change
stands_low b change h =
    let fine = (unflawed_parts b h.unflawed).headers in
    let w = whole b fine in
    let l = any_found is_load (headers b) (sound_file b fine).loaded in
    let addr = addr_bound b l.0 h.low w.1 l.1 in
    let place = place_bound b l.0 fine l.1 in
    let are : entries_in b change ≡ _ = entries_are b change in
    let most = entries_short (headers b) b change (new_strings_at b change) (entries_in b change) (record { same = refl; unflawed = fine }) (record { are = rw (← places_are b change) (entries_are b change) }) in
    record {
      load = l.0;
      found = l.1;
      above = stands_above b l.0 fine l.1;
      addr = addr;
      place = place;
      most = most;
      small = small_layout b change w.1 addr place h.few h.strings most;
    }

-- the new file
abbrev pub wide : List ℕ → Change → Overlay
wide b change = record { old_len = length b; patches = segment_patches b change; added = segment_pieces b change }

room_stays : (b : List ℕ) (change : Change) → (layout_of b change).moved ≡ false → length (entries_in b change) + 1 ≤ dynamic_capacity b
unfolding layout_of
room_stays b change e = go (dynamic_capacity b) (length (entries_in b change) + 1) e
  where
    go : (m n : ℕ) → nat_lt m n ≡ false → n ≤ m
    go m n h = grind (arith, nat_tests)

pub stays_in : (b : List ℕ) (change : Change) → (layout_of b change).moved ≡ false → length (entries_in b change) + 1 ≤ dynamic_capacity b
stays_in b change e = room_stays b change e

pub has_room : (b : List ℕ) (change : Change) → wants_segment b change ≡ true → HasRoom b change
has_room b change wants = record {
  stays = λ e. let room = room_stays b change e in omega arith;
  alone = λ w d. absurd (cc);
}

pub wide_sound : (b : List ℕ) (change : Change) → HasSegment b change → StaysWithin (wide b change)
unfolding segment_patches segment_pieces
wide_sound b change h =
    let fine = (unflawed_parts b h.unflawed).headers in
    let w = whole b fine in
    let s = stands_low b change h in
    sound_segment b (layout_of b change) (e_phnum b) (file_patches b change) (entries_in b change) (range_in (headers b) (strings_at (dynamic_entries b)) (old_size b)) (added (new_texts b change))
    (record { same = refl; unflawed = fine }) w.0 (files_fit b change fine w.0)
    (λ e. let room = room_stays b change e in omega arith)
    (record {
      small = s.small;
      short = w.1;
      few = let few = h.few in omega (arith, headers_count b);
      within = λ r e. let q = range_within b (strings_at (dynamic_entries b)) (old_size b) r fine e in (omega (arith, q.0), q.1);
      below = let size = h.strings in omega arith;
      most = s.most;
    })

pub laid_long : (b : List ℕ) (o : Overlay) → o.old_len ≡ length b → StaysWithin o → length (laid b o) ≡ length_of o
unfolding laid
laid_long b o same s =
    let fits : All (λ p. end_of p ≤ length b) o.patches = rw (← same) s.fits in
    let front = patched_long b o.patches fits in
    let back = total_long o.old_len b o.added same s.within in
    omega (arith, length-append (patched b o.patches) (put_together b o.added))

pub keeps_laid : (b : List ℕ) (o : Overlay) → o.old_len ≡ length b → StaysWithin o → KeepsBytes b (laid b o) (map range_of o.patches)
unfolding laid
keeps_laid b o same s = patched_keeps b (put_together b o.added) o.patches (rw (← same) s.fits)

pub wide_over : (b : List ℕ) (change : Change) → HasSegment b change → IsOver b change (laid b (wide b change))
wide_over b change h = record {
  unflawed = h.unflawed;
  apart = h.apart;
  room = has_room b change h.wants;
  keeps = rw (rewriting_wide b change h.wants) (keeps_laid b (wide b change) refl (wide_sound b change h));
}

-- its headers
abbrev pub last_of : List ℕ → Change → Segment
last_of b change = new_segment (layout_of b change)

abbrev pub segments_of : List ℕ → Change → List Segment
segments_of b change = headers_by (layout_of b change) (headers b)

pub leaves_loads : (l : Layout) → LeavesLoads (λ s. moved_by l s)
leaves_loads l = record {
  loads = λ s h. grind (arith, nat_tests);
  paths = λ s h. grind (arith, nat_tests);
  kinds = λ s. grind (arith, nat_tests);
}

add_count : (last : Segment) (xs : List Segment) → list_any is_load xs ≡ true → length (add_load last xs) ≡ length xs + 1
add_count last [] h = absurd (cc)
add_count last (s ∷ more) h = go (list_any is_load more) refl (is_load s) h (add_count last more)
  where
    go : (a : Bool) → list_any is_load more ≡ a → (b : Bool) → (b || a) ≡ true → (list_any is_load more ≡ true → length (add_load last more) ≡ length more + 1) → length (cond a (s ∷ add_load last more) (cond b (s ∷ (last ∷ more)) (s ∷ add_load last more))) ≡ length (s ∷ more) + 1
    go true e b h on = let more_long = on e in omega arith
    go false e true h on = omega arith
    go false e false h on = absurd (cc)

any_moved : (l : Layout) (xs : List Segment) → list_any is_load (map (λ s. moved_by l s) xs) ≡ list_any is_load xs
any_moved l [] = refl
any_moved l (s ∷ more) =
    let kind : (moved_by l s).kind ≡ s.kind = (leaves_loads l).kinds s in
    rw (kind, any_moved l more) refl

pub segments_count : (b : List ℕ) (change : Change) → header_flaw b ≡ None → length (segments_of b change) ≡ e_phnum b + 1
segments_count b change fine =
    let some : list_any is_load (map (λ s. moved_by (layout_of b change) s) (headers b)) ≡ true = any_moved (layout_of b change) (headers b) ∙ (sound_file b fine).loaded in
    add_count (last_of b change) (map (λ s. moved_by (layout_of b change) s) (headers b)) some ∙ ap (λ n. n + 1) (length-map (headers b) (λ s. moved_by (layout_of b change) s) ∙ headers_count b)

last_wide : (l : Layout) → IsSmallLayout l → IsWide (new_segment l)
last_wide l s =
    let place = s.place in
    let addr = s.addr in
    let size : segment_size l < 256 ^ 8 = size_small l.moved in
    record { kind = omega arith; flags = omega arith; offset = omega arith; vaddr = omega arith; paddr = omega arith; filesz = size; memsz = size; align = omega arith }
  where
    size_small : (m : Bool) → cond m (table_start l + l.table_size) l.strings_end < 256 ^ 8
    size_small true = let strings = s.strings_end in let table = s.table_size in omega arith
    size_small false = let strings = s.strings_end in omega arith

moved_wide : (l : Layout) (count : ℕ) → IsSmallLayout l → l.headers_size < 2 ^ 61 → (s : Segment) → IsWide s → IsWide (moved_by l s)
moved_wide l count small size s w = go (s.kind == PT_PHDR) (l.moved && (s.kind == PT_DYNAMIC))
  where
    go : (a m : Bool) → IsWide (cond a (moved_to (header_part l) s) (cond m (moved_to (table_part l) s) s))
    go true m =
        let place = small.place in
        let addr = small.addr in
        record { kind = w.kind; flags = w.flags; offset = omega arith; vaddr = omega arith; paddr = omega arith; filesz = omega arith; memsz = omega arith; align = w.align }
    go false true =
        let place = small.place in
        let addr = small.addr in
        let strings = small.strings_end in
        let table = small.table_size in
        record { kind = w.kind; flags = w.flags; offset = omega arith; vaddr = omega arith; paddr = omega arith; filesz = omega arith; memsz = omega arith; align = w.align }
    go false false = w

headers_small : (b : List ℕ) (change : Change) → e_phnum b + 1 < PN_XNUM → (layout_of b change).headers_size < 2 ^ 61
unfolding layout_of
headers_small b change few = omega arith

segments_wide : (b : List ℕ) (change : Change) → HasSegment b change → All (λ s. IsWide s) (segments_of b change)
segments_wide b change h =
    let small = (stands_low b change h).small in
    new_wide (λ s. moved_by (layout_of b change) s) (last_of b change) (headers b) (last_wide (layout_of b change) small) (λ s w. moved_wide (layout_of b change) 0 small (headers_small b change h.few) s w) (headers_wide b h.bytes)

-- what follows the words of the ELF header misses them
far_misses : (at n : ℕ) (r : Range) → at + n ≤ 64 → 64 ≤ r.0 → misses at n r ≡ true
far_misses at n r high far = grind (arith, nat_tests)

abbrev pub later_of : List ℕ → Change → List Patch
later_of b change = file_patches b change ++ cond (layout_of b change).moved [] (table_written b change)

later_misses : (b : List ℕ) (change : Change) (at n : ℕ) → HasSegment b change → at + n ≤ 64 → list_all (λ r. misses at n r) (map range_of (later_of b change)) ≡ true
later_misses b change at n h high =
    list_all-map (λ r. misses at n r) range_of (later_of b change)
    ∙ later_pass (λ r. misses at n r) b change (layout_of b change).moved (has_room b change h.wants).stays
    (λ k low. one_file (λ r. misses at n r) (grown_by b change) (need_place b k + 4) (file_for b change k) (let far : 64 ≤ need_place b k = needs_high b k h.apart low in far_misses at n (need_place b k + 4, need_place b k + 4 + 4) high (omega arith)))
    (λ s found. far_misses at n (table_place s) high (table_high b s h.unflawed h.apart found))

pub patches_are : (b : List ℕ) (change : Change) → segment_patches b change ≡ word 8 32 (layout_of b change).place ∷ (word 2 56 (e_phnum b + 1) ∷ later_of b change)
unfolding segment_patches
patches_are b change = refl

abbrev pub after_of : List ℕ → Change → List Piece
after_of b change = strings_piece (range_in (headers b) (strings_at (dynamic_entries b)) (old_size b)) ++ (New (added (new_texts b change)) ∷ table_pieces (layout_of b change) (entries_in b change))

pieces_are : (b : List ℕ) (change : Change) → segment_pieces b change ≡ Zeros ((layout_of b change).place - length b) ∷ (New (table_bytes (segments_of b change)) ∷ after_of b change)
unfolding segment_pieces
pieces_are b change = refl

pub layout_place : (b : List ℕ) (change : Change) → ((layout_of b change).place ≡ segment_place b) × ((layout_of b change).addr ≡ segment_addr b) × ((layout_of b change).headers_size ≡ headers_size b) × ((layout_of b change).strings_end ≡ headers_size b + new_size b change) × ((layout_of b change).table_size ≡ 16 * (length (entries_in b change) + 1))
unfolding layout_of
layout_place b change = (refl, refl, refl, refl, refl)

pub record HasNewHeaders (b : List ℕ) (change : Change) (c : List ℕ) : Type 0 where
  pub headers_are : headers c ≡ segments_of b change
  pub place : e_phoff c ≡ segment_place b
  pub number : e_phnum c ≡ e_phnum b + 1

pub new_headers_laid : (b : List ℕ) (change : Change) → HasSegment b change → HasNewHeaders b change (laid b (wide b change))
unfolding segment_patches
new_headers_laid b change h =
    let fine = (unflawed_parts b h.unflawed).headers in
    let w = whole b fine in
    let s = stands_low b change h in
    let p = layout_place b change in
    let count : length (segments_of b change) ≡ e_phnum b + 1 = segments_count b change fine in
    let sound = wide_sound b change h in
    let patches : segment_patches b change ≡ word 8 32 (layout_of b change).place ∷ (word 2 56 (length (segments_of b change)) ∷ later_of b change) = rw count (patches_are b change) in
    let fits : All (λ q. end_of q ≤ length b) (word 8 32 (layout_of b change).place ∷ (word 2 56 (e_phnum b + 1) ∷ later_of b change)) = rw (← patches_are b change) sound.fits in
    let later : All (λ q. end_of q ≤ length b) (later_of b change) = All-tail (λ q. end_of q ≤ length b) (word 2 56 (e_phnum b + 1)) (later_of b change) (All-tail (λ q. end_of q ≤ length b) (word 8 32 (layout_of b change).place) (word 2 56 (e_phnum b + 1) ∷ later_of b change) fits) in
    let behind : length b ≤ (layout_of b change).place = (let b0 = s.above.behind in omega (arith, p.0)) in
    let small : (layout_of b change).place < 256 ^ 8 = (let b0 = s.small.place in omega arith) in
    let few : length (segments_of b change) < 256 ^ 2 = (let b0 = h.few in omega (arith, count)) in
    let r = headers_laid b (wide b change) (layout_of b change).place (segments_of b change) (later_of b change) (after_of b change) patches (pieces_are b change) w.0 behind later
    (later_misses b change 32 8 h (omega arith)) (later_misses b change 56 2 h (omega arith)) small few (segments_wide b change h) in
    record { headers_are = r.0; place = r.1 ∙ p.0; number = r.2 ∙ count }
