-- The new file: which bytes are written over the old ones, and which follow them
use Rattle.std.specs.Prelude.{ℕ, ◌+◌, ◌-◌, ◌*◌, ◌^◌, ◌<◌, ◌==◌, cond, nat_lt, List, [], ◌∷◌, ◌++◌, Option, Some, None, length, map, replicate}
use Rattle.std.specs.List.{enumerate_from, find, flat_map, zip}
use Rattle.std.specs.Option.{option_map}
use Rattle.std.specs.Int.{next_multiple_of}
use Rattle.std.specs.Str.{bytes_eq}
use Rattle.byte_view.specs.Dynamic.{dynamic_capacity, dynamic_entries, strings_at, tagged, entries_bytes}
use Rattle.byte_view.specs.Headers.{e_phnum, headers, is_dynamic}
use Rattle.byte_view.specs.Memory.{range_in}
use Rattle.byte_view.specs.declared.constants.TheConstants.{DT_NULL, PF_R, PF_W, PT_LOAD}
use Rattle.byte_view.specs.declared.dynamic.Entry.{Entry}
use Rattle.byte_view.specs.declared.segments.Segment.{Segment}
use Rattle.load_model.specs.VersionTables.{ask_needs_of, file_words_of}
use Rattle.strtab_grow.specs.Growth.{Growth, added}
use Rattle.two_files.specs.Kept.{Range}
use Rattle.two_files.specs.NewHeaders.{SegmentPart, add_load, move_header}
use Rattle.elf_rewrite.specs.NewSegment.{headers_size, segment_addr, segment_place}
use Rattle.elf_rewrite.specs.NewTable.{entries_in, grown_by, new_place, new_size, old_size}
use Rattle.elf_rewrite.specs.NewTexts.{ask_files, is_done, new_texts, wants_segment}
use Rattle.elf_rewrite.specs.Pieces.{Overlay}
use Rattle.elf_rewrite.specs.Words.{table_bytes, word}
use Rattle.elf_rewrite.specs.declared.change.Change.{Change}
use Rattle.elf_rewrite.specs.declared.change.TheConstants.{PAGE}
use Rattle.elf_rewrite.specs.declared.layout.Layout.{Layout}
use Rattle.elf_rewrite.specs.declared.patch.Patch.{Patch}
use Rattle.elf_rewrite.specs.declared.patch.Piece.{Piece}
use Rattle.elf_rewrite.specs.declared.patch.Piece.TheVariants.{Old, New, Zeros}

-- The layout of the new segment, with strings of a size and so many entries where there is room for
-- some at the old place.
abbrev pub layout_by : List ℕ → ℕ → ℕ → ℕ → Layout
layout_by b strings_size count capacity = record {
  place = segment_place b;
  addr = segment_addr b;
  headers_size = headers_size b;
  strings_end = headers_size b + strings_size;
  table_size = 16 * (count + 1);
  moved = nat_lt capacity (count + 1);
}

unfoldable pub layout_of : List ℕ → Change → Layout
layout_of b change = layout_by b (new_size b change) (length (entries_in b change))
    (dynamic_capacity b)

-- Where the entries stand that moved, from the start of the segment.
abbrev pub table_start : Layout → ℕ
table_start l = next_multiple_of l.strings_end 8

abbrev pub table_part : Layout → SegmentPart
table_part l = record {
  offset = l.place + table_start l;
  addr = l.addr + table_start l;
  size = l.table_size;
}

abbrev pub header_part : Layout → SegmentPart
header_part l = record { offset = l.place; addr = l.addr; size = l.headers_size }

abbrev pub segment_size : Layout → ℕ
segment_size l = cond l.moved (table_start l + l.table_size) l.strings_end

abbrev pub new_segment : Layout → Segment
new_segment l = record {
  kind = PT_LOAD;
  flags = PF_R + PF_W;
  offset = l.place;
  vaddr = l.addr;
  paddr = l.addr;
  filesz = segment_size l;
  memsz = segment_size l;
  align = PAGE;
}

-- A header that stands where the part is that it describes, or where it stood.
abbrev pub moved_by : Layout → Segment → Segment
moved_by l s = move_header (header_part l) l.moved (table_part l) s

abbrev pub headers_by : Layout → List Segment → List Segment
headers_by l segments = add_load (new_segment l) (map (λ s. moved_by l s) segments)

-- Its places and sizes can be added in words.
pub record IsSmallLayout (l : Layout) : Type 0 where
  pub place : l.place < 2 ^ 63
  pub addr : l.addr < 2 ^ 63
  pub strings_end : l.strings_end < 2 ^ 61
  pub table_size : l.table_size < 2 ^ 61

unfoldable pub new_headers : List ℕ → Change → List Segment
new_headers b change = headers_by (layout_of b change) (headers b)

-- The old and the new file of a need, by its first ask.
abbrev pub ask_file_in : List ℕ → List (List ℕ) → List (List ℕ) → ℕ → Option (List ℕ × List ℕ)
ask_file_in needs olds news k =
    option_map (λ p. p.1) (find (λ p. p.0 == k) (zip needs (zip olds news)))

abbrev pub file_for : List ℕ → Change → ℕ → Option (List ℕ × List ℕ)
file_for b change k = ask_file_in (ask_needs_of b) (ask_files b) change.files k

-- Where it changes, the word at a place names the new one.
abbrev pub file_patch : Growth → ℕ → Option (List ℕ × List ℕ) → List Patch
file_patch g at None = []
file_patch g at (Some p) = cond (bytes_eq p.0 p.1) [] (word 4 at (new_place g p.1) ∷ [])

-- The words that name files of which versions are needed.
unfoldable pub file_patches : List ℕ → Change → List Patch
file_patches b change =
    flat_map (λ p. file_patch (grown_by b change) p.1 (file_for b change p.0))
    (enumerate_from 0 (file_words_of b))

-- Entries with zeros up to the capacity of a table.
abbrev pub padded_entries : ℕ → List Entry → List Entry
padded_entries capacity entries =
    entries ++ replicate (capacity - length entries) (tagged DT_NULL 0)

-- The dynamic table at its old place.
abbrev pub table_patch : ℕ → List Entry → Option Segment → List Patch
table_patch capacity entries None = []
table_patch capacity entries (Some s) = record {
  at = s.offset;
  bytes = entries_bytes (padded_entries capacity entries);
} ∷ []

-- The old strings, as a part of the old file.
abbrev pub strings_piece : Option Range → List Piece
strings_piece None = []
strings_piece (Some range) = Old range.0 (range.1 - range.0) ∷ []

-- The entries that moved, behind a gap.
abbrev pub table_pieces : Layout → List Entry → List Piece
table_pieces l entries =
    cond l.moved (Zeros (table_start l - l.strings_end)
    ∷ (New (entries_bytes (entries ++ tagged DT_NULL 0 ∷ [])) ∷ [])) []

-- A segment with these headers, old strings, new strings and entries, behind so many bytes.
abbrev pub pieces_by : ℕ → Layout → List Segment → Option Range → List ℕ → List Entry → List Piece
pieces_by len l segments strings new entries =
    Zeros (l.place - len) ∷ (New (table_bytes (headers_by l segments))
    ∷ (strings_piece strings ++ (New new ∷ table_pieces l entries)))

unfoldable pub segment_pieces : List ℕ → Change → List Piece
segment_pieces b change =
    pieces_by (length b) (layout_of b change) (headers b)
    (range_in (headers b) (strings_at (dynamic_entries b)) (old_size b))
    (added (new_texts b change)) (entries_in b change)

-- The words e_phoff and e_phnum, those of files that versions are needed of, and the dynamic table
-- where it did not move.
abbrev pub patches_by : Layout → ℕ → List Patch → ℕ → List Entry → Option Segment → List Patch
patches_by l count files capacity entries s =
    word 8 32 l.place ∷ (word 2 56 (count + 1) ∷ (files
    ++ cond l.moved [] (table_patch capacity entries s)))

unfoldable pub segment_patches : List ℕ → Change → List Patch
segment_patches b change =
    patches_by (layout_of b change) (e_phnum b) (file_patches b change) (dynamic_capacity b)
    (entries_in b change) (find is_dynamic (headers b))

abbrev pub table_written : List ℕ → Change → List Patch
table_written b change = table_patch (dynamic_capacity b) (entries_in b change)
    (find is_dynamic (headers b))

unfoldable pub rewriting : List ℕ → Change → Overlay
rewriting b change = record {
  old_len = length b;
  patches = cond (is_done b change) []
      (cond (wants_segment b change) (segment_patches b change) (table_written b change));
  added = cond (wants_segment b change) (segment_pieces b change) [];
}
