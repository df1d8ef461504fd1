-- The stops of a rewriting, in the order in which they are named
use Rattle.std.specs.Prelude.{ℕ, ◌+◌, ◌*◌, ◌==◌, ◌&&◌, ◌||◌, Bool, cond, not, nat_lt, nat_le, List, [], ◌∷◌, Option, Some, None, length}
use Rattle.std.specs.List.{list_any}
use Rattle.answers.specs.First.{first_some, some_where}
use Rattle.byte_view.specs.Headers.{e_phnum, e_shentsize, e_shnum, e_shoff, headers, is_load, memory_end}
use Rattle.byte_view.specs.declared.constants.TheConstants.{LONGEST_FILE, PN_XNUM, SHDR_SIZE}
use Rattle.byte_view.specs.declared.segments.Segment.{Segment}
use Rattle.strtab_grow.specs.declared.texts.TheConstants.{TABLE_LIMIT}
use Rattle.elf_rewrite.specs.NewTable.{new_size}
use Rattle.elf_rewrite.specs.NewTexts.{is_done, wants_segment}
use Rattle.elf_rewrite.specs.Pieces.{length_of}
use Rattle.elf_rewrite.specs.Ranges.{first_overlap}
use Rattle.elf_rewrite.specs.Rewriting.{rewriting}
use Rattle.elf_rewrite.specs.declared.change.Change.{Change}
use Rattle.elf_rewrite.specs.declared.change.RewriteStop.{RewriteStop}
use Rattle.elf_rewrite.specs.declared.change.RewriteStop.TheVariants.{NoMemory, TableOverlap, NoRoom, TooManyHeaders, StringsTooLong, TooLarge}
use Rattle.elf_rewrite.specs.declared.change.TheConstants.{HIGHEST_OLD_END}

-- Two tables share a place, the first such pair.
abbrev pub overlap_stop : Option (ℕ × ℕ) → Option RewriteStop
overlap_stop None = None
overlap_stop (Some p) = Some (TableOverlap p.0 p.1)

-- A LOAD ends too high in memory for another above it.
abbrev pub ends_high : Segment → Bool
ends_high s = is_load s && nat_lt HIGHEST_OLD_END (memory_end s)

-- There are section headers, and they do not all lie in the file.
abbrev pub has_sections_outside : List ℕ → Bool
has_sections_outside b =
    (e_shentsize b == SHDR_SIZE) && (not (e_shnum b == 0)
    && nat_lt (length b) (e_shoff b + 64 * e_shnum b))

abbrev pub no_room : List ℕ → Option RewriteStop
no_room b = some_where (list_any ends_high (headers b) || has_sections_outside b) NoRoom

abbrev pub too_many_headers : List ℕ → Option RewriteStop
too_many_headers b = some_where (nat_le PN_XNUM (e_phnum b + 1)) TooManyHeaders

abbrev pub strings_too_long : List ℕ → Change → Option RewriteStop
strings_too_long b change = some_where (nat_le TABLE_LIMIT (new_size b change)) StringsTooLong

abbrev pub too_large : List ℕ → Change → Option RewriteStop
too_large b change =
    some_where (nat_lt LONGEST_FILE (length_of (rewriting b change)))
    (TooLarge (length_of (rewriting b change)))

-- What keeps a segment from being added.
unfoldable pub segment_stop : List ℕ → Change → Option RewriteStop
segment_stop b change = first_some (no_room b ∷ too_many_headers b ∷ strings_too_long b change
    ∷ too_large b change ∷ [])

-- The stop of a rewriting; none where nothing is to do.
unfoldable pub stop_of : List ℕ → Change → Option RewriteStop
stop_of b change = cond (is_done b change) None
    (first_some (overlap_stop (first_overlap b) ∷ cond (wants_segment b change)
    (segment_stop b change) None ∷ []))

-- Want of memory names none.
abbrev pub stop_named : RewriteStop → Option RewriteStop
stop_named NoMemory = None
stop_named (TableOverlap m n) = Some (TableOverlap m n)
stop_named NoRoom = Some NoRoom
stop_named TooManyHeaders = Some TooManyHeaders
stop_named StringsTooLong = Some StringsTooLong
stop_named (TooLarge len) = Some (TooLarge len)
