-- The parts that were made are those of the rewriting
use Rattle.std.proofs.Common.{◌≡◌, ℕ, ◌+◌, ◌≤◌, ◌<◌, ◌^◌, Bool, true, false, List, [], ◌++◌, Option, Some, None, length, map, refl, sym, ap, ◌∙◌, arith}
use Rattle.std.specs.Prelude.{nat_lt}
use Rattle.std.specs.List.{enumerate_from, find, flat_map}
use Rattle.std.proofs.lemmas.Bool.Decides.{nat_tests}
use Rattle.std.proofs.lemmas.List.{length-map}
use Rattle.byte_view.specs.Dynamic.{capacity_of, dynamic_capacity, dynamic_entries, dynamic_table, strings_at, strings_size, table_by}
use Rattle.byte_view.specs.Headers.{e_phnum, file_end, headers, is_dynamic}
use Rattle.byte_view.specs.Memory.{range_in}
use Rattle.byte_view.specs.Sound.{IsReadFrom}
use Rattle.byte_view.specs.declared.dynamic.Entry.{Entry}
use Rattle.byte_view.specs.declared.segments.Segment.{Segment}
use Rattle.dyn_table.specs.Table.{IsTableOf, Table}
use Rattle.dyn_table.proofs.Placed.{dynamic_within}
use Rattle.load_model.specs.SymbolFlaws.{symbol_count}
use Rattle.load_model.specs.VersionTables.{ask_needs_of, asks_of, vernauxs}
use Rattle.strtab_grow.specs.Growth.{Growth, added, size_of}
use Rattle.strtab_grow.specs.declared.texts.TheConstants.{TABLE_LIMIT}
use Rattle.two_files.specs.Entries.{new_entries}
use Rattle.version_tables.specs.VersionLists.{IsVersionsOf, VersionLists}
use Rattle.elf_rewrite.specs.NewSegment.{headers_size, segment_addr}
use Rattle.elf_rewrite.specs.NewTable.{entries_in, grown_by, text_places, places_with}
use Rattle.elf_rewrite.specs.NewTexts.{changed_texts, removes, wants_segment}
use Rattle.elf_rewrite.specs.Pieces.{StaysWithin}
use Rattle.elf_rewrite.specs.Rewriting.{IsSmallLayout, ask_file_in, file_patch, file_patches, layout_by, layout_of, patches_by, pieces_by, rewriting, segment_patches, segment_pieces, table_patch}
use Rattle.elf_rewrite.specs.declared.change.Change.{Change}
use Rattle.elf_rewrite.specs.declared.layout.Layout.{Layout}
use Rattle.elf_rewrite.specs.declared.patch.Patch.{Patch}
use Rattle.elf_rewrite.specs.declared.patch.Piece.{Piece}
use Rattle.elf_rewrite.proofs.Lengths.{capacity_by, entries_fewer, entries_most, entries_within, headers_count}
use Rattle.elf_rewrite.proofs.Soundness.{files_fit, no_path, range_within, sound_segment, sound_table}
use Rattle.elf_rewrite.proofs.Wholeness.{whole}

pub asks_counted : (b : List ℕ) → length (ask_needs_of b) ≡ length (asks_of b)
unfolding ask_needs_of asks_of
asks_counted b = length-map (vernauxs b) _ ∙ sym (length-map (vernauxs b) _)

pub read_count : (segments : List Segment) (b : List ℕ) → IsReadFrom segments b → length segments ≡ e_phnum b
read_count segments b r = ap length r.same ∙ headers_count b

-- the files that change, as they were read
abbrev pub files_by : Growth → VersionLists → List (List ℕ) → List Patch
files_by g v files = flat_map (λ p. file_patch g p.1 (ask_file_in v.ask_needs (map (λ a. a.file) v.asks) files p.0)) (enumerate_from 0 v.file_words)

files_same : (b : List ℕ) (change : Change) (g : Growth) (v : VersionLists) → g ≡ grown_by b change → IsVersionsOf v (symbol_count b) b → files_by g v change.files ≡ file_patches b change
unfolding file_patches
files_same b change g v e r = rw (e, r.ask_needs, r.asks, r.file_words) refl

-- entries of a file that are rewritten, where the string table begins at an address
pub record AreEntries (b : List ℕ) (change : Change) (at : ℕ) (entries : List Entry) : Type 0 where
  pub are : entries ≡ new_entries (places_with b change at) (dynamic_entries b)

-- what was read and made for a segment
pub record IsMade (b : List ℕ) (change : Change) (elf : List Segment) (t : Table) (v : VersionLists) (g : Growth) (entries : List Entry) (l : Layout) : Type 0 where
  pub headers : IsReadFrom elf b
  pub table : IsTableOf t b
  pub versions : IsVersionsOf v (symbol_count b) b
  pub wants : wants_segment b change ≡ true
  pub grown : g ≡ grown_by b change
  pub below : size_of g < TABLE_LIMIT
  pub remade : AreEntries b change (segment_addr b + headers_size b) entries
  pub layout : l ≡ layout_by b (size_of g) (length entries) t.capacity
  pub small : IsSmallLayout l

entries_same : (b : List ℕ) (change : Change) (at : ℕ) (entries : List Entry) → wants_segment b change ≡ true → AreEntries b change (segment_addr b + headers_size b) entries → entries ≡ entries_in b change
unfolding entries_in text_places
entries_same b change at entries w e = e.are ∙ rw w refl

layout_same : (b : List ℕ) (change : Change) (g : Growth) (capacity : ℕ) (entries : List Entry) → g ≡ grown_by b change → capacity ≡ dynamic_capacity b → entries ≡ entries_in b change → layout_by b (size_of g) (length entries) capacity ≡ layout_of b change
unfolding layout_of
layout_same b change g capacity entries eg ec ee = rw (eg, ec, ee) refl

pub rewriting_wide : (b : List ℕ) (change : Change) → wants_segment b change ≡ true → rewriting b change ≡ record { old_len = length b; patches = segment_patches b change; added = segment_pieces b change }
unfolding rewriting
rewriting_wide b change w = rw w refl

patches_same : (b : List ℕ) (change : Change) (elf : List Segment) (t : Table) (v : VersionLists) (g : Growth) (entries : List Entry) (l : Layout) → IsMade b change elf t v g entries l → patches_by l (length elf) (files_by g v change.files) t.capacity entries (find is_dynamic elf) ≡ segment_patches b change
unfolding segment_patches
patches_same b change elf t v g entries l m =
    let es : entries ≡ entries_in b change = entries_same b change 0 entries m.wants m.remade in
    let ls : l ≡ layout_of b change = m.layout ∙ layout_same b change g t.capacity entries m.grown m.table.capacity es in
    let count : length elf ≡ e_phnum b = ap length m.headers.same ∙ headers_count b in
    rw (count, files_same b change g v m.grown m.versions, ls, m.table.capacity, es, m.headers.same) refl

pieces_same : (b : List ℕ) (change : Change) (elf : List Segment) (t : Table) (v : VersionLists) (g : Growth) (entries : List Entry) (l : Layout) → IsMade b change elf t v g entries l → pieces_by (length b) l elf (range_in elf (strings_at t.entries) (strings_size t.entries)) (added g.texts) entries ≡ segment_pieces b change
unfolding segment_pieces
pieces_same b change elf t v g entries l m =
    let es : entries ≡ entries_in b change = entries_same b change 0 entries m.wants m.remade in
    let ls : l ≡ layout_of b change = m.layout ∙ layout_same b change g t.capacity entries m.grown m.table.capacity es in
    rw (ls, es, m.headers.same, m.table.entries, m.grown) refl

-- they make the rewriting
pub made : (b : List ℕ) (change : Change) (elf : List Segment) (t : Table) (v : VersionLists) (g : Growth) (entries : List Entry) (l : Layout) (patches : List Patch) (pieces : List Piece) → IsMade b change elf t v g entries l → patches ≡ patches_by l (length elf) (files_by g v change.files) t.capacity entries (find is_dynamic elf) → pieces ≡ pieces_by (length b) l elf (range_in elf (strings_at t.entries) (strings_size t.entries)) (added g.texts) entries → record { old_len = length b; patches = patches; added = pieces } ≡ rewriting b change
made b change elf t v g entries l patches pieces m ep ea =
    rw (ep, ea, patches_same b change elf t v g entries l m, pieces_same b change elf t v g entries l m) (sym (rewriting_wide b change m.wants))

entries_few : (b : List ℕ) (change : Change) (at : ℕ) (entries : List Entry) → AreEntries b change at entries → length entries ≤ dynamic_capacity b + 1
entries_few b change at entries e = omega (arith, ap length e.are, entries_most (places_with b change at) (dynamic_entries b), entries_within b)

read_same : (elf : List Segment) (b : List ℕ) → IsReadFrom elf b → IsReadFrom (headers b) b
read_same elf b r = record { same = refl; unflawed = r.unflawed }

pub made_sound : (b : List ℕ) (change : Change) (elf : List Segment) (t : Table) (v : VersionLists) (g : Growth) (entries : List Entry) (l : Layout) (patches : List Patch) (pieces : List Piece) → IsMade b change elf t v g entries l → length elf < 2 ^ 16 → length entries < 2 ^ 33 → patches ≡ patches_by l (length elf) (files_by g v change.files) t.capacity entries (find is_dynamic elf) → pieces ≡ pieces_by (length b) l elf (range_in elf (strings_at t.entries) (strings_size t.entries)) (added g.texts) entries → StaysWithin (record { old_len = length b; patches = patches; added = pieces })
made_sound b change elf t v g entries l patches pieces m few most ep ea =
    let fine = whole b m.headers.unflawed in
    let files : files_by g v change.files ≡ file_patches b change = files_same b change g v m.grown m.versions in
    let moved : l.moved ≡ nat_lt t.capacity (length entries + 1) = ap (λ (k : Layout). k.moved) m.layout in
    let same = m.headers.same in
    let capacity = m.table.capacity in
    rw (ep, ea, same, capacity, files) (sound_segment b l (length (headers b)) (file_patches b change) entries (range_in (headers b) (strings_at t.entries) (strings_size t.entries)) (added g.texts) (read_same elf b m.headers) fine.0 (files_fit b change m.headers.unflawed fine.0)
    (λ still. room (nat_lt t.capacity (length entries + 1)) refl (sym moved ∙ still))
    (record {
      small = m.small;
      short = fine.1;
      few = omega (arith, ap length same);
      within = λ r e. let w = range_within b (strings_at t.entries) (strings_size t.entries) r m.headers.unflawed e in (omega (arith, w.0), w.1);
      below = omega (arith, m.below);
      most = most;
    }))
  where
    room : (x : Bool) → nat_lt t.capacity (length entries + 1) ≡ x → nat_lt t.capacity (length entries + 1) ≡ false → length entries ≤ dynamic_capacity b
    room x e f = let low : length entries + 1 ≤ t.capacity = grind (arith, nat_tests) in omega (arith, m.table.capacity)

-- a table that is written anew where it stood, without new texts
pub rewriting_narrow : (b : List ℕ) (change : Change) → wants_segment b change ≡ false → removes b change ≡ true → rewriting b change ≡ record { old_len = length b; patches = table_patch (dynamic_capacity b) (entries_in b change) (find is_dynamic (headers b)); added = [] }
unfolding rewriting
rewriting_narrow b change w r = rw (w, r) refl

pub rewriting_none : (b : List ℕ) (change : Change) → wants_segment b change ≡ false → removes b change ≡ false → record { old_len = length b; patches = []; added = [] } ≡ rewriting b change
unfolding rewriting
rewriting_none b change w r = rw (w, r) refl

entries_narrow : (b : List ℕ) (change : Change) (entries : List Entry) → wants_segment b change ≡ false → AreEntries b change (strings_at (dynamic_entries b)) entries → entries ≡ entries_in b change
unfolding entries_in text_places
entries_narrow b change entries w e = e.are ∙ rw w refl

pub narrow : (b : List ℕ) (change : Change) (elf : List Segment) (t : Table) (entries : List Entry) (patches : List Patch) → IsReadFrom elf b → IsTableOf t b → wants_segment b change ≡ false → removes b change ≡ true → AreEntries b change (strings_at t.entries) entries → patches ≡ table_patch t.capacity entries (find is_dynamic elf) → record { old_len = length b; patches = patches; added = [] } ≡ rewriting b change
narrow b change elf t entries patches r rt w rm e ep =
    let es : entries ≡ entries_in b change = entries_narrow b change entries w (rw rt.entries at e) in
    rw (ep, rt.capacity, r.same, es) (sym (rewriting_narrow b change w rm))

pub narrow_sound : (b : List ℕ) (change : Change) (elf : List Segment) (t : Table) (entries : List Entry) (patches : List Patch) → IsReadFrom elf b → IsTableOf t b → wants_segment b change ≡ false → AreEntries b change (strings_at t.entries) entries → patches ≡ table_patch t.capacity entries (find is_dynamic elf) → StaysWithin (record { old_len = length b; patches = patches; added = [] })
narrow_sound b change elf t entries patches r rt w e ep =
    let fine = whole b r.unflawed in
    let none : length (changed_texts b change) ≡ 0 = grind (arith, nat_tests) in
    let fewer : length (new_entries (places_with b change (strings_at t.entries)) (dynamic_entries b)) ≤ length (dynamic_entries b) = entries_fewer (places_with b change (strings_at t.entries)) (dynamic_entries b) (no_path b change (strings_at t.entries) none) in
    let room : length entries ≤ dynamic_capacity b = omega (arith, ap length e.are, entries_within b) in
    rw (ep, rt.capacity, r.same) (sound_table b entries (read_same elf b r) (omega (arith, fine.1)) room)

capacity_short : (elf : List Segment) (b : List ℕ) → IsReadFrom elf b → dynamic_capacity b ≤ length b
unfolding dynamic_table
capacity_short elf b r = go (find is_dynamic (headers b)) refl
  where
    go : (o : Option Segment) → find is_dynamic (headers b) ≡ o → length (table_by b (headers b) (find is_dynamic (headers b))) ≤ length b
    go None e = rw e (omega arith)
    go (Some s) e =
        let within : file_end s ≤ length b = dynamic_within (headers b) b s (read_same elf b r) e in
        let size : length (table_by b (headers b) (find is_dynamic (headers b))) ≡ capacity_of s = capacity_by b s (find is_dynamic (headers b)) e in
        omega arith

pub entries_short : (elf : List Segment) (b : List ℕ) (change : Change) (at : ℕ) (entries : List Entry) → IsReadFrom elf b → AreEntries b change at entries → length entries < 2 ^ 33
entries_short elf b change at entries r e =
    let fine = whole b r.unflawed in
    omega (arith, entries_few b change at entries e, capacity_short elf b r, fine.1)

-- the same over what was handed on
pub record AreHanded (b : List ℕ) (change : Change) (elf : List Segment) (t : Table) (v : VersionLists) (g : Growth) (entries : List Entry) (l : Layout) (segments : List Segment) (files : List (List ℕ)) (capacity : ℕ) (slice : List Entry) (patches : List Patch) (pieces : List Piece) : Type 0 where
  pub made : IsMade b change elf t v g entries l
  pub same_segments : segments ≡ elf
  pub same_files : files ≡ change.files
  pub same_capacity : capacity ≡ t.capacity
  pub same_entries : slice ≡ entries
  pub patched : patches ≡ patches_by l (length segments) (files_by g v files) capacity entries (find is_dynamic segments)
  pub pieced : pieces ≡ pieces_by (length b) l elf (range_in elf (strings_at t.entries) (strings_size t.entries)) (added g.texts) slice

pub handed : (b : List ℕ) (change : Change) (elf : List Segment) (t : Table) (v : VersionLists) (g : Growth) (entries : List Entry) (l : Layout) (segments : List Segment) (files : List (List ℕ)) (capacity : ℕ) (slice : List Entry) (patches : List Patch) (pieces : List Piece) → AreHanded b change elf t v g entries l segments files capacity slice patches pieces → record { old_len = length b; patches = patches; added = pieces } ≡ rewriting b change
handed b change elf t v g entries l segments files capacity slice patches pieces h =
    made b change elf t v g entries l patches pieces h.made (h.patched ∙ rw (h.same_segments, h.same_files, h.same_capacity) refl) (h.pieced ∙ rw h.same_entries refl)

pub handed_sound : (b : List ℕ) (change : Change) (elf : List Segment) (t : Table) (v : VersionLists) (g : Growth) (entries : List Entry) (l : Layout) (segments : List Segment) (files : List (List ℕ)) (capacity : ℕ) (slice : List Entry) (patches : List Patch) (pieces : List Piece) → AreHanded b change elf t v g entries l segments files capacity slice patches pieces → length elf < 2 ^ 16 → StaysWithin (record { old_len = length b; patches = patches; added = pieces })
handed_sound b change elf t v g entries l segments files capacity slice patches pieces h few =
    made_sound b change elf t v g entries l patches pieces h.made few (entries_short elf b change (segment_addr b + headers_size b) entries h.made.headers h.made.remade) (h.patched ∙ rw (h.same_segments, h.same_files, h.same_capacity) refl) (h.pieced ∙ rw h.same_entries refl)

-- the same of a table alone
pub record IsNarrow (b : List ℕ) (change : Change) (elf : List Segment) (t : Table) (at : ℕ) (entries : List Entry) (segments : List Segment) (capacity : ℕ) (start patches : List Patch) (pieces : List Piece) : Type 0 where
  pub headers : IsReadFrom elf b
  pub table : IsTableOf t b
  pub still : wants_segment b change ≡ false
  pub strings : at ≡ strings_at t.entries
  pub remade : AreEntries b change at entries
  pub same_segments : segments ≡ elf
  pub same_capacity : capacity ≡ t.capacity
  pub started : start ≡ []
  pub patched : patches ≡ start ++ table_patch capacity entries (find is_dynamic segments)
  pub none : pieces ≡ []

narrow_patched : (b : List ℕ) (change : Change) (elf : List Segment) (t : Table) (at : ℕ) (entries : List Entry) (segments : List Segment) (capacity : ℕ) (start patches : List Patch) (pieces : List Piece) → IsNarrow b change elf t at entries segments capacity start patches pieces → patches ≡ table_patch t.capacity entries (find is_dynamic elf)
narrow_patched b change elf t at entries segments capacity start patches pieces n = n.patched ∙ rw (n.started, n.same_segments, n.same_capacity) refl

narrow_remade : (b : List ℕ) (change : Change) (t : Table) (at : ℕ) (entries : List Entry) → at ≡ strings_at t.entries → AreEntries b change at entries → AreEntries b change (strings_at t.entries) entries
narrow_remade b change t at entries e a = record { are = a.are ∙ rw e refl }

pub narrow_done : (b : List ℕ) (change : Change) (elf : List Segment) (t : Table) (at : ℕ) (entries : List Entry) (segments : List Segment) (capacity : ℕ) (start patches : List Patch) (pieces : List Piece) → IsNarrow b change elf t at entries segments capacity start patches pieces → removes b change ≡ true → record { old_len = length b; patches = patches; added = pieces } ≡ rewriting b change
narrow_done b change elf t at entries segments capacity start patches pieces n rm =
    rw n.none (narrow b change elf t entries patches n.headers n.table n.still rm (narrow_remade b change t at entries n.strings n.remade) (narrow_patched b change elf t at entries segments capacity start patches pieces n))

pub narrow_done_sound : (b : List ℕ) (change : Change) (elf : List Segment) (t : Table) (at : ℕ) (entries : List Entry) (segments : List Segment) (capacity : ℕ) (start patches : List Patch) (pieces : List Piece) → IsNarrow b change elf t at entries segments capacity start patches pieces → StaysWithin (record { old_len = length b; patches = patches; added = pieces })
narrow_done_sound b change elf t at entries segments capacity start patches pieces n =
    rw n.none (narrow_sound b change elf t entries patches n.headers n.table n.still (narrow_remade b change t at entries n.strings n.remade) (narrow_patched b change elf t at entries segments capacity start patches pieces n))
