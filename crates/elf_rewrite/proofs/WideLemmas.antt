-- A file with a segment more has a face
use Rattle.std.proofs.Common.{◌≡◌, ℕ, ◌+◌, ◌-◌, ◌*◌, ◌<◌, ◌≤◌, ◌==◌, ◌&&◌, Bool, true, false, cond, List, [], ◌∷◌, ◌++◌, Option, Some, None, length, refl, ap, sym, ◌∙◌, arith, length-append}
use Rattle.std.specs.Prelude.{nat_lt}
use Rattle.std.specs.List.{All, filter, find}
use Rattle.std.proofs.lemmas.Bool.Decides.{nat_tests}
use Rattle.std.proofs.lemmas.List.Elements.{All-cons, All-head, All-nil, All-tail, All-weaker}
use Rattle.byte_view.specs.Dynamic.{dynamic_entries, strings_at, tagged, entries_bytes}
use Rattle.byte_view.specs.DynamicFlaws.{two_dynamic}
use Rattle.byte_view.specs.HeaderFlaws.{has_bad_range, header_flaw, segment_flaw}
use Rattle.byte_view.specs.Headers.{e_shentsize, e_shnum, e_shoff, headers, is_dynamic, is_interp, is_load, memory_end}
use Rattle.byte_view.specs.Memory.{range_in}
use Rattle.byte_view.specs.declared.constants.TheConstants.{LONGEST_FILE, PT_DYNAMIC, PT_PHDR, SHDR_SIZE, DT_NULL}
use Rattle.byte_view.specs.declared.dynamic.Entry.{Entry}
use Rattle.byte_view.specs.declared.segments.Segment.{Segment}
use Rattle.byte_view.proofs.Backed.{load_sizes}
use Rattle.byte_view.proofs.Loads.{sound_file}
use Rattle.strtab_grow.specs.Growth.{added}
use Rattle.two_files.specs.Kept.{Range, SameImage}
use Rattle.two_files.specs.NewHeaders.{AddsLoad, moved_to}
use Rattle.two_files.proofs.HeadersFine.{headers_fine, segments_fine}
use Rattle.two_files.proofs.Image.{same_image}
use Rattle.two_files.proofs.NewHeaders.{adds_load, dynamic_moved, interp_left, ranges_kept}
use Rattle.two_files.proofs.NewRanges.{one_dynamic, range_new}
use Rattle.elf_rewrite.specs.NewSegment.{segment_addr, segment_place, top_of}
use Rattle.elf_rewrite.specs.NewTable.{entries_in, old_size}
use Rattle.elf_rewrite.specs.NewTexts.{new_texts}
use Rattle.elf_rewrite.specs.Pieces.{laid, length_of, total_size}
use Rattle.elf_rewrite.specs.Rewriting.{header_part, layout_of, moved_by, segment_pieces, segment_size, table_part, table_pieces, table_start}
use Rattle.elf_rewrite.specs.Stops.{has_sections_outside}
use Rattle.elf_rewrite.specs.Words.{table_bytes}
use Rattle.elf_rewrite.specs.declared.change.Change.{Change}
use Rattle.elf_rewrite.specs.declared.layout.Layout.{Layout}
use Rattle.elf_rewrite.specs.declared.patch.Piece.TheVariants.{New, Old, Zeros}
use Rattle.elf_rewrite.proofs.Above.{loads_below, new_good}
use Rattle.elf_rewrite.proofs.Lengths.{entries_long, table_long}
use Rattle.elf_rewrite.proofs.Planned.{rewriting_wide}
use Rattle.elf_rewrite.proofs.SectionLemmas.{KeepsOutside, same_header}
use Rattle.elf_rewrite.proofs.SegmentLemmas.{HasSegment, laid_long, last_of, layout_place, leaves_loads, new_headers_laid, segments_count, segments_of, stands_low, wide, wide_over, wide_sound}
use Rattle.elf_rewrite.proofs.Soundness.{range_within}
use Rattle.elf_rewrite.proofs.TableLemmas.{HasHeaders}
use Rattle.elf_rewrite.proofs.UnflawedLemmas.{has_strings, has_table, unflawed_parts}
use Rattle.elf_rewrite.proofs.WrittenLemmas.{written_ranges}

abbrev pub wide_file : List ℕ → Change → List ℕ
wide_file b change = laid b (wide b change)

-- the pieces behind the old bytes
abbrev pub strings_range : List ℕ → Option Range
strings_range b = range_in (headers b) (strings_at (dynamic_entries b)) (old_size b)

pub pieces_with : (b : List ℕ) (change : Change) (r : Range) → strings_range b ≡ Some r → segment_pieces b change ≡ Zeros ((layout_of b change).place - length b) ∷ (New (table_bytes (segments_of b change)) ∷ (Old r.0 (r.1 - r.0) ∷ (New (added (new_texts b change)) ∷ table_pieces (layout_of b change) (entries_in b change))))
unfolding segment_pieces
pieces_with b change r e = rw e refl

abbrev table_total : Layout → ℕ
table_total l = cond l.moved (table_start l - l.strings_end + l.table_size) 0

table_sum : (l : Layout) (entries : List Entry) → l.table_size ≡ 16 * (length entries + 1) → total_size (table_pieces l entries) ≡ table_total l
table_sum l entries e = go l.moved
  where
    long : length (entries_bytes (entries ++ tagged DT_NULL 0 ∷ [])) ≡ l.table_size
    long = entries_long (entries ++ tagged DT_NULL 0 ∷ []) ∙ (ap (λ n. 16 * n) (length-append entries (tagged DT_NULL 0 ∷ [])) ∙ sym e)

    go : (m : Bool) → total_size (cond m (Zeros (table_start l - l.strings_end) ∷ (New (entries_bytes (entries ++ tagged DT_NULL 0 ∷ [])) ∷ [])) []) ≡ cond m (table_start l - l.strings_end + l.table_size) 0
    go true = omega (arith, long)
    go false = refl

-- the new file ends where the segment does
pub wide_long : (b : List ℕ) (change : Change) → HasSegment b change → length (wide_file b change) ≡ segment_place b + segment_size (layout_of b change)
wide_long b change h =
    let fine = (unflawed_parts b h.unflawed).headers in
    let s = has_strings b (has_table b (unflawed_parts b h.unflawed).dynamic).strings in
    let p = layout_place b change in
    let w = range_within b (strings_at (dynamic_entries b)) (old_size b) s.range fine s.there in
    let behind = (stands_low b change h).above.behind in
    let count = segments_count b change fine in
    let table : length (table_bytes (segments_of b change)) ≡ 56 * length (segments_of b change) = table_long (segments_of b change) in
    let end : total_size (table_pieces (layout_of b change) (entries_in b change)) ≡ table_total (layout_of b change) = table_sum (layout_of b change) (entries_in b change) p.4 in
    let sum : length_of (wide b change) ≡ length b + (((layout_of b change).place - length b) + (length (table_bytes (segments_of b change)) + ((s.range.1 - s.range.0) + (length (added (new_texts b change)) + total_size (table_pieces (layout_of b change) (entries_in b change)))))) = ap (λ l. length b + total_size l) (pieces_with b change s.range s.there) in
    let x : ℕ = length b + (((layout_of b change).place - length b) + (length (table_bytes (segments_of b change)) + ((s.range.1 - s.range.0) + length (added (new_texts b change))))) in
    let all : length_of (wide b change) ≡ x + total_size (table_pieces (layout_of b change) (entries_in b change)) = omega (arith, sum) in
    let here : x ≡ segment_place b + (layout_of b change).strings_end = omega (arith, p.0, p.2, p.3, w.0, count, table, behind) in
    laid_long b (wide b change) refl (wide_sound b change h) ∙ (all ∙ sum_ends (layout_of b change).moved (layout_of b change) (total_size (table_pieces (layout_of b change) (entries_in b change))) x (segment_place b) end here)
  where
    sum_ends : (m : Bool) (l : Layout) (total x place : ℕ) → total ≡ cond m (table_start l - l.strings_end + l.table_size) 0 → x ≡ place + l.strings_end → x + total ≡ place + cond m (table_start l + l.table_size) l.strings_end
    sum_ends true l total x place e f = omega arith
    sum_ends false l total x place e f = omega arith

-- the new segment
last_load : (b : List ℕ) (change : Change) → is_load (last_of b change) ≡ true
last_load b change = refl

ends_within : (b : List ℕ) (change : Change) → HasSegment b change → All (λ s. memory_end s ≤ segment_addr b) (filter is_load (headers b))
ends_within b change h =
    let top = (stands_low b change h).above.top in
    All-weaker (λ s. memory_end s ≤ top_of (headers b)) (λ s. memory_end s ≤ segment_addr b) (λ s e. omega arith) (filter is_load (headers b)) (loads_below (headers b))

last_addr : (b : List ℕ) (change : Change) → (last_of b change).vaddr ≡ segment_addr b
last_addr b change = (layout_place b change).1

ends_below : (b : List ℕ) (change : Change) → HasSegment b change → All (λ s. memory_end s ≤ (last_of b change).vaddr) (filter is_load (headers b))
ends_below b change h = rw (last_addr b change) (ends_within b change h)

pub wide_adds : (b : List ℕ) (change : Change) → HasSegment b change → AddsLoad (headers b) (headers (wide_file b change)) (last_of b change)
wide_adds b change h =
    let fine = (unflawed_parts b h.unflawed).headers in
    rw (new_headers_laid b change h).headers_are (adds_load (λ s. moved_by (layout_of b change) s) (last_of b change) (headers b) (leaves_loads (layout_of b change)) refl (sound_file b fine).loaded)

-- a header that was fine is so where it is moved to
each_good : (len more : ℕ) (l : Layout) → len ≤ more → (l.moved ≡ true → l.place + table_start l + l.table_size ≤ more) → (s : Segment) → has_bad_range len s ≡ false → has_bad_range more (moved_by l s) ≡ false
each_good len more l longer table s h = go (s.kind == PT_PHDR) refl l.moved refl (s.kind == PT_DYNAMIC) refl
  where
    phdr : (s.kind == PT_PHDR) ≡ true → has_bad_range more (moved_to (header_part l) s) ≡ false
    phdr e = grind (arith, nat_tests)

    moved_table : (s.kind == PT_DYNAMIC) ≡ true → l.place + table_start l + l.table_size ≤ more → has_bad_range more (moved_to (table_part l) s) ≡ false
    moved_table e fits = grind (arith, nat_tests)

    still : has_bad_range more s ≡ false
    still = grind (arith, nat_tests)

    go : (a : Bool) → (s.kind == PT_PHDR) ≡ a → (m : Bool) → l.moved ≡ m → (d : Bool) → (s.kind == PT_DYNAMIC) ≡ d → has_bad_range more (cond a (moved_to (header_part l) s) (cond (m && d) (moved_to (table_part l) s) s)) ≡ false
    go true a m b d e = phdr a
    go false a true b true e = moved_table e (table b)
    go false a true b false e = still
    go false a false b d e = still

moved_end : (b : List ℕ) (change : Change) → HasSegment b change → (layout_of b change).moved ≡ true → (layout_of b change).place + table_start (layout_of b change) + (layout_of b change).table_size ≤ length (wide_file b change)
moved_end b change h e =
    let long = wide_long b change h in
    let size : segment_size (layout_of b change) ≡ table_start (layout_of b change) + (layout_of b change).table_size = rw e refl in
    omega (arith, (layout_place b change).0)

pub wide_short : (b : List ℕ) (change : Change) → HasSegment b change → length (wide_file b change) ≤ LONGEST_FILE
wide_short b change h =
    let long = laid_long b (wide b change) refl (wide_sound b change h) in
    let short : length_of (wide b change) ≤ LONGEST_FILE = rw (rewriting_wide b change h.wants) at (h.short) in
    omega arith

last_good : (b : List ℕ) (change : Change) → HasSegment b change → has_bad_range (length (wide_file b change)) (last_of b change) ≡ false
last_good b change h =
    let p = layout_place b change in
    let s = stands_low b change h in
    let long = wide_long b change h in
    let short = wide_short b change h in
    let addr = s.addr in
    new_good (length (wide_file b change)) (last_of b change) refl (omega (arith, p.0)) (omega (arith, p.1)) refl (rw (p.1) s.above.page) (rw (p.0) s.above.place)

wide_segments : (b : List ℕ) (change : Change) → HasSegment b change → segment_flaw (length b) (headers b) ≡ None → segment_flaw (length (wide_file b change)) (headers (wide_file b change)) ≡ None
wide_segments b change h e =
    let begins : All (λ s. s.vaddr ≤ (last_of b change).vaddr) (filter is_load (headers b)) = All-weaker (λ s. memory_end s ≤ (last_of b change).vaddr) (λ s. s.vaddr ≤ (last_of b change).vaddr) (λ s m. omega arith) (filter is_load (headers b)) (ends_below b change h) in
    let longer = (wide_over b change h).keeps.longer in
    rw (new_headers_laid b change h).headers_are
    (segments_fine (length b) (length (wide_file b change)) (λ s. moved_by (layout_of b change) s) (last_of b change) (headers b) (leaves_loads (layout_of b change)) refl
    (each_good (length b) (length (wide_file b change)) (layout_of b change) longer (moved_end b change h)) (last_good b change h) (ends_below b change h) begins e)

pub wide_fine : (b : List ℕ) (change : Change) → HasSegment b change → header_flaw (wide_file b change) ≡ None
wide_fine b change h =
    let fine = (unflawed_parts b h.unflawed).headers in
    let n = new_headers_laid b change h in
    let long = wide_long b change h in
    let p = layout_place b change in
    let strings : (layout_of b change).strings_end ≤ segment_size (layout_of b change) = strings_first (layout_of b change) in
    let few = h.few in
    headers_fine b (wide_file b change) (same_header b change (wide_file b change) (wide_over b change h)) (wide_over b change h).keeps.longer (wide_short b change h) (omega (arith, n.number)) (omega (arith, n.number)) (omega (arith, n.place, n.number, p.3)) (wide_segments b change h) fine
  where
    strings_first : (l : Layout) → l.strings_end ≤ segment_size l
    strings_first l = go l.moved
      where
        go : (m : Bool) → l.strings_end ≤ cond m (table_start l + l.table_size) l.strings_end
        go true = omega arith
        go false = omega arith

pub wide_headers : (b : List ℕ) (change : Change) → HasSegment b change → HasHeaders b (wide_file b change)
wide_headers b change h = record {
  fine = wide_fine b change h;
  ranges = ranges_kept (headers b) (headers (wide_file b change)) (last_of b change) (wide_adds b change h);
}

pub wide_interp : (b : List ℕ) (change : Change) → HasSegment b change → find is_interp (headers (wide_file b change)) ≡ find is_interp (headers b)
wide_interp b change h =
    rw (new_headers_laid b change h).headers_are (interp_left (λ s. moved_by (layout_of b change) s) (last_of b change) (headers b) (leaves_loads (layout_of b change)) refl)

pub wide_dynamic : (b : List ℕ) (change : Change) (s : Segment) → HasSegment b change → find is_dynamic (headers b) ≡ Some s → find is_dynamic (headers (wide_file b change)) ≡ Some (moved_by (layout_of b change) s)
wide_dynamic b change s h e =
    rw (new_headers_laid b change h).headers_are (dynamic_moved (λ s. moved_by (layout_of b change) s) (last_of b change) (headers b) (leaves_loads (layout_of b change)) refl ∙ rw e refl)

pub wide_one : (b : List ℕ) (change : Change) → HasSegment b change → two_dynamic (headers b) ≡ None → two_dynamic (headers (wide_file b change)) ≡ None
wide_one b change h e =
    rw (new_headers_laid b change h).headers_are (one_dynamic (λ s. moved_by (layout_of b change) s) (last_of b change) (headers b) (leaves_loads (layout_of b change)) refl e)

pub wide_image : (b : List ℕ) (change : Change) → HasSegment b change → SameImage b (wide_file b change) (written_ranges b change)
wide_image b change h =
    same_image b (wide_file b change) (written_ranges b change) (last_of b change) (unflawed_parts b h.unflawed).headers (wide_over b change h).keeps (wide_adds b change h) (ends_below b change h)

-- the sections do not come into the new file
pub wide_outside : (b : List ℕ) (change : Change) (c : List ℕ) → has_sections_outside b ≡ false → KeepsOutside b c
wide_outside b change c e = record { outside = λ size some far. absurd (inside size some far) }
  where
    inside : (e_shentsize b == SHDR_SIZE) ≡ true → (e_shnum b == 0) ≡ false → length b < e_shoff b + 64 * e_shnum b → ⊥
    inside size some far =
        let yes : nat_lt (length b) (e_shoff b + 64 * e_shnum b) ≡ true = grind (arith, nat_tests) in
        let all : has_sections_outside b ≡ true = rw (size, some, yes) refl in
        cc

-- the ranges of the new segment
loads_sized : (len : ℕ) (xs : List Segment) → All (λ s. has_bad_range len s ≡ false) xs → All (λ s. s.filesz ≤ s.memsz) (filter is_load xs)
loads_sized len [] all = All-nil (λ s. s.filesz ≤ s.memsz)
loads_sized len (s ∷ more) all = go (is_load s) refl (loads_sized len more (All-tail (λ s. has_bad_range len s ≡ false) s more all))
  where
    go : (b : Bool) → is_load s ≡ b → All (λ s. s.filesz ≤ s.memsz) (filter is_load more) → All (λ s. s.filesz ≤ s.memsz) (cond b (s ∷ filter is_load more) (filter is_load more))
    go true l on = All-cons (λ s. s.filesz ≤ s.memsz) s (filter is_load more) (load_sizes len s l (All-head (λ s. has_bad_range len s ≡ false) s more all)).0 on
    go false l on = on

files_below : (b : List ℕ) (change : Change) → HasSegment b change → All (λ s. s.vaddr + s.filesz ≤ (last_of b change).vaddr) (filter is_load (headers b))
files_below b change h =
    let sized = loads_sized (length b) (headers b) (sound_file b (unflawed_parts b h.unflawed).headers).mappable in
    let ends = ends_below b change h in
    λ k d low. let a = sized k d low in let e = ends k d low in omega arith

pub new_range : (b : List ℕ) (change : Change) (from len : ℕ) → HasSegment b change → 0 < len → from + len ≤ segment_size (layout_of b change) → range_in (headers (wide_file b change)) (segment_addr b + from) len ≡ Some (segment_place b + from, segment_place b + from + len)
new_range b change from len h some fits =
    let p = layout_place b change in
    let below = files_below b change h in
    let at : (last_of b change).offset + (segment_addr b + from - (last_of b change).vaddr) ≡ segment_place b + from = omega (arith, p.0, p.1) in
    range_new (headers b) (headers (wide_file b change)) (last_of b change) (segment_addr b + from) len (wide_adds b change h) refl below (omega (arith, p.1)) some (omega (arith, p.1)) ∙ ap (λ (n : ℕ). Some (n, n + len)) at
