-- The strings and the dynamic table of a file with a segment more
use Rattle.std.proofs.Common.{◌≡◌, ℕ, ◌+◌, ◌-◌, ◌^◌, ◌<◌, ◌≤◌, ◌==◌, Bool, true, false, cond, List, [], ◌∷◌, ◌++◌, Some, None, length, take, drop, refl, ap, sym, subst, ◌∙◌, arith, length-append, append-nil, append_assoc}
use Rattle.std.specs.Prelude.{nat_lt, replicate}
use Rattle.std.specs.List.{All, find}
use Rattle.std.proofs.lemmas.Bool.Decides.{nat_tests}
use Rattle.std.proofs.lemmas.List.{length-replicate, take_at}
use Rattle.std.proofs.lemmas.List.Elements.{All-same}
use Rattle.byte_view.specs.Dynamic.{capacity_of, dynamic_capacity, dynamic_entries, dynamic_table, strings_at, strings_of, tagged, entries_bytes}
use Rattle.byte_view.specs.DynamicFlaws.{misplaced, place_flaw, two_dynamic}
use Rattle.byte_view.specs.Headers.{e_phnum, headers, is_dynamic}
use Rattle.byte_view.specs.Memory.{range_in}
use Rattle.byte_view.specs.declared.constants.TheConstants.{DT_NULL, PT_DYNAMIC, PT_PHDR}
use Rattle.byte_view.specs.declared.dynamic.Entry.{Entry}
use Rattle.byte_view.specs.declared.segments.Segment.{Segment}
use Rattle.byte_view.proofs.Found.{find_passes}
use Rattle.dyn_table.proofs.StringTable.{AreStrings, strings_there}
use Rattle.strtab_grow.specs.Growth.{added}
use Rattle.two_files.specs.NewHeaders.{moved_to}
use Rattle.two_files.proofs.NewRanges.{placed_still}
use Rattle.two_files.proofs.Strings.{strings_long}
use Rattle.elf_rewrite.specs.NewFile.{IsNewFile}
use Rattle.elf_rewrite.specs.NewSegment.{headers_size, segment_addr, segment_place}
use Rattle.elf_rewrite.specs.NewTable.{entries_in, new_size, new_strings_at, old_size}
use Rattle.elf_rewrite.specs.NewTexts.{new_texts}
use Rattle.elf_rewrite.specs.Patched.{end_of, patched}
use Rattle.elf_rewrite.specs.Pieces.{Overlay, laid, put_together}
use Rattle.elf_rewrite.specs.Rewriting.{file_patches, layout_of, moved_by, padded_entries, rewriting, segment_patches, segment_pieces, segment_size, table_part, table_pieces, table_start}
use Rattle.elf_rewrite.specs.Words.{table_bytes, word}
use Rattle.elf_rewrite.specs.declared.change.Change.{Change}
use Rattle.elf_rewrite.specs.declared.layout.Layout.{Layout}
use Rattle.elf_rewrite.specs.declared.patch.Patch.{Patch}
use Rattle.elf_rewrite.specs.declared.patch.Piece.{Piece}
use Rattle.elf_rewrite.specs.declared.patch.Piece.TheVariants.{New, Old, Zeros}
use Rattle.elf_rewrite.proofs.Fields.{IsShort}
use Rattle.elf_rewrite.proofs.Filled.{laid_reads, sized}
use Rattle.elf_rewrite.proofs.Lengths.{capacity_is, padded_long, table_long}
use Rattle.elf_rewrite.proofs.Patched.{patched_long}
use Rattle.elf_rewrite.proofs.PartsLemmas.{HasParts, remade}
use Rattle.elf_rewrite.proofs.Planned.{rewriting_wide}
use Rattle.elf_rewrite.proofs.RemadeLemmas.{is_new}
use Rattle.elf_rewrite.proofs.SegmentLemmas.{HasSegment, layout_place, patches_are, segments_count, segments_of, stands_low, stays_in, wide, wide_over, wide_sound}
use Rattle.elf_rewrite.proofs.Soundness.{range_within}
use Rattle.elf_rewrite.proofs.StandingLemmas.{all_short, ended_short, last_reads, padded_end, table_is}
use Rattle.elf_rewrite.proofs.TableLemmas.{has_versions, placed_need}
use Rattle.elf_rewrite.proofs.UnflawedLemmas.{has_strings, has_table, unflawed_parts}
use Rattle.elf_rewrite.proofs.WideLemmas.{new_range, pieces_with, wide_dynamic, wide_file, wide_fine, wide_headers, wide_image, wide_interp, wide_one, wide_outside}
use Rattle.elf_rewrite.proofs.WordLemmas.{word_read}

-- what stands at the third and at the sixth piece
two_long : (b t : List ℕ) (g : ℕ) → length (put_together b (Zeros g ∷ (New t ∷ []))) ≡ g + length t
two_long b t g = length-append (replicate g 0) (t ++ []) ∙ (ap (λ n. n + length (t ++ [])) (length-replicate g 0) ∙ ap (λ l. g + length l) (append-nil t))

third_reads : (b : List ℕ) (o : Overlay) (g at len : ℕ) (t n : List ℕ) (rest : List Piece) → o.added ≡ Zeros g ∷ (New t ∷ (Old at len ∷ (New n ∷ rest))) → length (patched b o.patches) ≡ length b → drop (length b + (g + length t)) (laid b o) ≡ take len (drop at b) ++ (n ++ put_together b rest)
third_reads b o g at len t n rest e long =
    let some : 2 < length o.added = rw e (omega arith) in
    let there : drop (length b + length (put_together b (take 2 o.added))) (laid b o) ≡ take len (drop at b) ++ put_together b (drop 3 o.added) = laid_reads b o 2 (Old at len) long some (rw e refl) in
    let front : length (put_together b (take 2 o.added)) ≡ g + length t = rw e (two_long b t g) in
    let back : put_together b (drop 3 o.added) ≡ n ++ put_together b rest = rw e refl in
    ap (λ m. drop (length b + m) (laid b o)) (sym front) ∙ (there ∙ ap (λ l. take len (drop at b) ++ l) back)

five_long : (b t n : List ℕ) (g at len gap : ℕ) → at + len ≤ length b → length (put_together b (Zeros g ∷ (New t ∷ (Old at len ∷ (New n ∷ (Zeros gap ∷ [])))))) ≡ g + length t + len + length n + gap
five_long b t n g at len gap within =
    let old : length (take len (drop at b)) ≡ len = sized b (Old at len) (grind (arith, nat_tests)) in
    let last : length {A = ℕ} (replicate gap 0 ++ []) ≡ gap = ap (λ (l : List ℕ). length l) (append-nil (replicate gap 0)) ∙ length-replicate gap 0 in
    let first : length {A = ℕ} (replicate g 0) ≡ g = length-replicate g 0 in
    omega (arith, length-append (replicate g 0) (t ++ (take len (drop at b) ++ (n ++ (replicate gap 0 ++ [])))), length-append t (take len (drop at b) ++ (n ++ (replicate gap 0 ++ []))), length-append (take len (drop at b)) (n ++ (replicate gap 0 ++ [])), length-append n (replicate gap 0 ++ []))

sixth_reads : (b : List ℕ) (o : Overlay) (g at len gap : ℕ) (t n bytes : List ℕ) → o.added ≡ Zeros g ∷ (New t ∷ (Old at len ∷ (New n ∷ (Zeros gap ∷ (New bytes ∷ []))))) → length (patched b o.patches) ≡ length b → at + len ≤ length b → drop (length b + (g + length t + len + length n + gap)) (laid b o) ≡ bytes ++ []
sixth_reads b o g at len gap t n bytes e long within =
    let some : 5 < length o.added = rw e (omega arith) in
    let there : drop (length b + length (put_together b (take 5 o.added))) (laid b o) ≡ bytes ++ put_together b (drop 6 o.added) = laid_reads b o 5 (New bytes) long some (rw e refl) in
    let front : length (put_together b (take 5 o.added)) ≡ g + length t + len + length n + gap = rw e (five_long b t n g at len gap within) in
    let back : put_together b (drop 6 o.added) ≡ [] = rw e refl in
    ap (λ m. drop (length b + m) (laid b o)) (sym front) ∙ (there ∙ ap (λ l. bytes ++ l) back)

wide_patched : (b : List ℕ) (change : Change) → HasSegment b change → length (patched b (wide b change).patches) ≡ length b
wide_patched b change h = patched_long b (wide b change).patches (wide_sound b change h).fits

front_long : (b : List ℕ) (change : Change) → HasSegment b change → length b + (((layout_of b change).place - length b) + length (table_bytes (segments_of b change))) ≡ segment_place b + headers_size b
front_long b change h =
    let p = layout_place b change in
    let behind = (stands_low b change h).above.behind in
    let count = segments_count b change (unflawed_parts b h.unflawed).headers in
    omega (arith, p.0, count, table_long (segments_of b change))

-- the strings
strings_stand : (b : List ℕ) (change : Change) → HasSegment b change → take (new_size b change) (drop (segment_place b + headers_size b) (wide_file b change)) ≡ strings_of b (headers b) (dynamic_entries b) ++ added (new_texts b change)
strings_stand b change h =
    let fine = (unflawed_parts b h.unflawed).headers in
    let s = has_strings b (has_table b (unflawed_parts b h.unflawed).dynamic).strings in
    let r = s.range in
    let old : AreStrings b (strings_of b (headers b) (dynamic_entries b)) r = strings_there (headers b) b (dynamic_entries b) r (record { same = refl; unflawed = fine }) s.there in
    let there = third_reads b (wide b change) ((layout_of b change).place - length b) r.0 (r.1 - r.0) (table_bytes (segments_of b change)) (added (new_texts b change)) (table_pieces (layout_of b change) (entries_in b change)) (pieces_with b change r s.there) (wide_patched b change h) in
    let S : List ℕ = strings_of b (headers b) (dynamic_entries b) in
    let A : List ℕ = added (new_texts b change) in
    let rest : List ℕ = put_together b (table_pieces (layout_of b change) (entries_in b change)) in
    let all : drop (segment_place b + headers_size b) (wide_file b change) ≡ (S ++ A) ++ rest = ap (λ n. drop n (wide_file b change)) (sym (front_long b change h)) ∙ (there ∙ (ap (λ l. l ++ (A ++ rest)) old.same ∙ sym (append_assoc S A rest))) in
    let long : length (S ++ A) ≡ new_size b change = length-append S A ∙ ap (λ n. n + length A) (strings_long b (headers b) (dynamic_entries b)) in
    ap (λ l. take (new_size b change) l) all ∙ take_at (S ++ A) rest (new_size b change) long

new_strings_there : (b : List ℕ) (change : Change) → HasSegment b change → new_strings_at b change ≡ segment_addr b + headers_size b
new_strings_there b change h = rw h.wants refl

strings_backed : (b : List ℕ) (change : Change) → HasSegment b change → range_in (headers (wide_file b change)) (new_strings_at b change) (new_size b change) ≡ Some (segment_place b + headers_size b, segment_place b + headers_size b + new_size b change)
strings_backed b change h =
    let s = has_strings b (has_table b (unflawed_parts b h.unflawed).dynamic).strings in
    let old = s.some in
    let some : 0 < new_size b change = omega arith in
    let p = layout_place b change in
    let fits : headers_size b + new_size b change ≤ segment_size (layout_of b change) = (let first = strings_first (layout_of b change) in omega (arith, p.3)) in
    rw (new_strings_there b change h) (new_range b change (headers_size b) (new_size b change) h some fits)
  where
    strings_first : (l : Layout) → l.strings_end ≤ segment_size l
    strings_first l = go l.moved
      where
        go : (m : Bool) → l.strings_end ≤ cond m (table_start l + l.table_size) l.strings_end
        go true = omega arith
        go false = omega arith

entries_small : (b : List ℕ) (change : Change) → HasSegment b change → All (λ e. IsShort e) (entries_in b change)
entries_small b change h =
    let fine = unflawed_parts b h.unflawed in
    let s = stands_low b change h in
    let addr = s.addr in
    let few = h.few in
    let low : segment_addr b + headers_size b < 256 ^ 8 = omega arith in
    all_short b change h.bytes fine.headers (has_table b fine.dynamic) h.strings (rw (new_strings_there b change h) low)

-- the dynamic table
pub record HasNewTable (b : List ℕ) (change : Change) (c : List ℕ) : Type 0 where
  pub segment : Segment
  pub found : find is_dynamic (headers c) ≡ Some segment
  pub placed : place_flaw (headers c) segment ≡ None
  pub rest : List Entry
  pub table : dynamic_table c ≡ entries_in b change ++ tagged DT_NULL 0 ∷ rest

placed_by : (segments : List Segment) (s : Segment) → two_dynamic segments ≡ None → misplaced segments s ≡ None → place_flaw segments s ≡ None
unfolding place_flaw
placed_by segments s two placed = rw (two, placed) refl

moved_pieces : (l : Layout) (entries : List Entry) → l.moved ≡ true → table_pieces l entries ≡ Zeros (table_start l - l.strings_end) ∷ (New (entries_bytes (entries ++ tagged DT_NULL 0 ∷ [])) ∷ [])
moved_pieces l entries m = rw m refl

table_at_place : (b : List ℕ) (change : Change) → HasSegment b change → (layout_of b change).moved ≡ true → drop ((layout_of b change).place + table_start (layout_of b change)) (wide_file b change) ≡ entries_bytes (entries_in b change ++ tagged DT_NULL 0 ∷ []) ++ []
table_at_place b change h m =
    let fine = (unflawed_parts b h.unflawed).headers in
    let s = has_strings b (has_table b (unflawed_parts b h.unflawed).dynamic).strings in
    let r = s.range in
    let l = layout_of b change in
    let p = layout_place b change in
    let w = range_within b (strings_at (dynamic_entries b)) (old_size b) r fine s.there in
    let pieces : segment_pieces b change ≡ Zeros (l.place - length b) ∷ (New (table_bytes (segments_of b change)) ∷ (Old r.0 (r.1 - r.0) ∷ (New (added (new_texts b change)) ∷ (Zeros (table_start l - l.strings_end) ∷ (New (entries_bytes (entries_in b change ++ tagged DT_NULL 0 ∷ [])) ∷ []))))) = pieces_with b change r s.there ∙ ap (λ (ps : List Piece). Zeros (l.place - length b) ∷ (New (table_bytes (segments_of b change)) ∷ (Old r.0 (r.1 - r.0) ∷ (New (added (new_texts b change)) ∷ ps)))) (moved_pieces l (entries_in b change) m) in
    let there = sixth_reads b (wide b change) (l.place - length b) r.0 (r.1 - r.0) (table_start l - l.strings_end) (table_bytes (segments_of b change)) (added (new_texts b change)) (entries_bytes (entries_in b change ++ tagged DT_NULL 0 ∷ [])) pieces (wide_patched b change h) (omega (arith, w.0, w.1)) in
    let front = front_long b change h in
    let at : length b + ((l.place - length b) + length (table_bytes (segments_of b change)) + (r.1 - r.0) + length (added (new_texts b change)) + (table_start l - l.strings_end)) ≡ l.place + table_start l = omega (arith, p.0, p.3, w.0) in
    ap (λ n. drop n (wide_file b change)) (sym at) ∙ there

moved_table : (b : List ℕ) (change : Change) → HasSegment b change → (layout_of b change).moved ≡ true → HasNewTable b change (wide_file b change)
moved_table b change h m =
    let fine = unflawed_parts b h.unflawed in
    let t = has_table b fine.dynamic in
    let l = layout_of b change in
    let p = layout_place b change in
    let s = moved_to (table_part l) t.segment in
    let kind : is_dynamic t.segment ≡ true = find_passes is_dynamic (headers b) t.segment t.found in
    let moves : moved_by l t.segment ≡ s = moves_table l t.segment m kind in
    let found : find is_dynamic (headers (wide_file b change)) ≡ Some s = wide_dynamic b change t.segment h t.found ∙ ap Some moves in
    let fits : table_start l + l.table_size ≤ segment_size l = rw m (omega arith) in
    let range = new_range b change (table_start l) l.table_size h (omega (arith, p.4)) fits in
    let at : range_in (headers (wide_file b change)) (l.addr + table_start l) l.table_size ≡ Some (segment_place b + table_start l, segment_place b + table_start l + l.table_size) = rw (p.1) range in
    let placed : place_flaw (headers (wide_file b change)) s ≡ None = placed_by (headers (wide_file b change)) s (wide_one b change h t.two) (stands (headers (wide_file b change)) l t.segment (segment_place b + table_start l) (segment_place b + table_start l + l.table_size) at (omega (arith, p.0)) (omega (arith, p.4))) in
    let short = ended_short 0 (entries_in b change) (entries_small b change h) in
    let size : capacity_of s ≡ length (entries_in b change ++ tagged DT_NULL 0 ∷ []) = (let long = length-append (entries_in b change) (tagged DT_NULL 0 ∷ []) in omega (arith, p.4)) in
    record {
      segment = s;
      found = found;
      placed = placed;
      rest = [];
      table = table_is (wide_file b change) [] s (entries_in b change ++ tagged DT_NULL 0 ∷ []) (wide_fine b change h) found placed size short (table_at_place b change h m);
    }
  where
    moves_table : (l : Layout) (s : Segment) → l.moved ≡ true → is_dynamic s ≡ true → moved_by l s ≡ moved_to (table_part l) s
    moves_table l s m k =
        let tag : s.kind ≡ PT_DYNAMIC = grind (arith, nat_tests) in
        rw (tag, m) refl

    stands : (cs : List Segment) (l : Layout) (s : Segment) (from to : ℕ) → range_in cs (l.addr + table_start l) l.table_size ≡ Some (from, to) → from ≡ l.place + table_start l → 16 ≤ l.table_size → misplaced cs (moved_to (table_part l) s) ≡ None
    stands cs l s from to range place some =
        let big : nat_lt l.table_size 16 ≡ false = grind (arith, nat_tests) in
        let here : (from == l.place + table_start l) ≡ true = grind (arith, nat_tests) in
        rw (big, range, here) refl

-- the table at its old place is what is written last
kept_at : (b : List ℕ) (change : Change) → HasSegment b change → (layout_of b change).moved ≡ false → (s : Segment) → find is_dynamic (headers b) ≡ Some s → (rest : List ℕ) × (drop s.offset (wide_file b change) ≡ entries_bytes (padded_entries (dynamic_capacity b) (entries_in b change)) ++ rest)
unfolding laid
kept_at b change h m s found =
    let p : Patch = record { at = s.offset; bytes = entries_bytes (padded_entries (dynamic_capacity b) (entries_in b change)) } in
    let pre : List Patch = word 8 32 (layout_of b change).place ∷ (word 2 56 (e_phnum b + 1) ∷ file_patches b change) in
    let rest : List ℕ = put_together b (wide b change).added in
    let patches : segment_patches b change ≡ pre ++ p ∷ [] = patches_are b change ∙ rw (m, found) refl in
    let fits : All (λ q. end_of q ≤ length b) (pre ++ p ∷ []) = All-same (λ q. end_of q ≤ length b) (pre ++ p ∷ []) (segment_patches b change) (sym patches) (wide_sound b change h).fits in
    let read = last_reads b rest pre p fits in
    (_, ap (λ (ps : List Patch). drop s.offset (patched b ps ++ rest)) patches ∙ read)

kept_table : (b : List ℕ) (change : Change) → HasSegment b change → (layout_of b change).moved ≡ false → HasNewTable b change (wide_file b change)
kept_table b change h m =
    let fine = unflawed_parts b h.unflawed in
    let t = has_table b fine.dynamic in
    let s = t.segment in
    let l = layout_of b change in
    let room : length (entries_in b change) + 1 ≤ dynamic_capacity b = stays_in b change m in
    let found : find is_dynamic (headers (wide_file b change)) ≡ Some s = wide_dynamic b change s h t.found ∙ ap Some (stays l s m (find_passes is_dynamic (headers b) s t.found)) in
    let placed : place_flaw (headers (wide_file b change)) s ≡ None = placed_by (headers (wide_file b change)) s (wide_one b change h t.two) (placed_still (headers b) (headers (wide_file b change)) s (wide_headers b change h).ranges t.placed) in
    let n : ℕ = dynamic_capacity b - (length (entries_in b change) + 1) in
    let padding = padded_end (dynamic_capacity b) (entries_in b change) room in
    let short = ended_short n (entries_in b change) (entries_small b change h) in
    let capacity : capacity_of s ≡ dynamic_capacity b = sym (capacity_is b s t.found) in
    let long : length (padded_entries (dynamic_capacity b) (entries_in b change)) ≡ dynamic_capacity b = padded_long (dynamic_capacity b) (entries_in b change) (omega arith) in
    let size : capacity_of s ≡ length (entries_in b change ++ tagged DT_NULL 0 ∷ replicate n (tagged DT_NULL 0)) = capacity ∙ (sym long ∙ ap length padding) in
    let stands = kept_at b change h m s t.found in
    record {
      segment = s;
      found = found;
      placed = placed;
      rest = replicate n (tagged DT_NULL 0);
      table = table_is (wide_file b change) stands.0 s (entries_in b change ++ tagged DT_NULL 0 ∷ replicate n (tagged DT_NULL 0)) (wide_fine b change h) found placed size short (stands.1 ∙ ap (λ xs. entries_bytes xs ++ stands.0) padding);
    }
  where
    stays : (l : Layout) (s : Segment) → l.moved ≡ false → is_dynamic s ≡ true → moved_by l s ≡ s
    stays l s m k =
        let tag : (s.kind == PT_PHDR) ≡ false = grind (arith, nat_tests) in
        rw (tag, m) refl

pub wide_table : (b : List ℕ) (change : Change) → HasSegment b change → HasNewTable b change (wide_file b change)
wide_table b change h = go (layout_of b change).moved refl
  where
    go : (m : Bool) → (layout_of b change).moved ≡ m → HasNewTable b change (wide_file b change)
    go true e = moved_table b change h e
    go false e = kept_table b change h e

pub wide_parts : (b : List ℕ) (change : Change) → HasSegment b change → HasParts b change (wide_file b change)
wide_parts b change h =
    let fine = unflawed_parts b h.unflawed in
    let t = wide_table b change h in
    let v = has_versions b fine.versions in
    record {
      over = wide_over b change h;
      headers_are = wide_headers b change h;
      segment = t.segment;
      found = t.found;
      placed = t.placed;
      rest = t.rest;
      table = t.table;
      range = (segment_place b + headers_size b, segment_place b + headers_size b + new_size b change);
      there = strings_backed b change h;
      strings = strings_stand b change h;
      interp = wide_interp b change h;
      outside = wide_outside b change (wide_file b change) h.inside;
      words = λ k low. word_read b change k h low (placed_need b k fine.headers v low).within;
    }

pub wide_new : (b : List ℕ) (change : Change) → HasSegment b change → IsNewFile b change (laid b (rewriting b change))
wide_new b change h =
    let new = is_new b change (wide_file b change) h.fits (remade b change (wide_file b change) h.fits (wide_parts b change h)) (wide_image b change h) in
    subst (λ (o : Overlay). IsNewFile b change (laid b o)) (sym (rewriting_wide b change h.wants)) new
