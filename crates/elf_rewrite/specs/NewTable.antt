-- The entries of the new dynamic table, by the string places of the new texts
use Rattle.std.specs.Prelude.{ℕ, ◌+◌, ◌==◌, cond, List, [], ◌∷◌, Option, Some, None, map}
use Rattle.std.specs.List.{filter}
use Rattle.std.specs.Option.{unwrap_or}
use Rattle.std.specs.Str.{bytes_eq}
use Rattle.byte_view.specs.Dynamic.{dynamic_entries, strings_at, strings_size}
use Rattle.byte_view.specs.declared.constants.TheConstants.{DT_NEEDED, DT_RUNPATH, DT_SONAME}
use Rattle.byte_view.specs.declared.dynamic.Entry.{Entry}
use Rattle.load_model.specs.VersionTables.{dynamic_value, text_of}
use Rattle.strtab_grow.specs.Growth.{Growth, growth, place_from, size_of}
use Rattle.two_files.specs.Entries.{Places, new_entries}
use Rattle.elf_rewrite.specs.NewSegment.{headers_size, segment_addr}
use Rattle.elf_rewrite.specs.NewTexts.{changed_texts, wants_segment}
use Rattle.elf_rewrite.specs.declared.change.Change.{Change}

abbrev pub old_size : List ℕ → ℕ
old_size b = strings_size (dynamic_entries b)

-- The string table with the new texts.
abbrev pub grown_by : List ℕ → Change → Growth
grown_by b change = growth (old_size b) (changed_texts b change)

abbrev pub new_size : List ℕ → Change → ℕ
new_size b change = size_of (grown_by b change)

-- The string place of a new text.
abbrev pub new_place : Growth → List ℕ → ℕ
new_place g new = unwrap_or (place_from g.old_size new g.texts) 0

-- The string place of a text in place of the one at a place, which stays if the texts are equal.
abbrev pub place_instead : List ℕ → Growth → ℕ → List ℕ → ℕ
place_instead b g at new = cond (bytes_eq (text_of b at) new) at (new_place g new)

abbrev pub need_places : List ℕ → Growth → List ℕ → List (List ℕ) → List ℕ
need_places b g [] news = []
need_places b g (at ∷ more) [] = []
need_places b g (at ∷ more) (new ∷ news) = place_instead b g at new ∷ need_places b g more news

abbrev pub name_place : List ℕ → Growth → Option ℕ → Option (List ℕ) → Option ℕ
name_place b g old None = None
name_place b g None (Some new) = Some (new_place g new)
name_place b g (Some at) (Some new) = Some (place_instead b g at new)

abbrev pub need_values : List Entry → List ℕ
need_values entries = map (λ e. e.value) (filter (λ e. e.tag == DT_NEEDED) entries)

-- What names have as their places, where the string table begins at an address.
abbrev pub places_with : List ℕ → Change → ℕ → Places
places_with b change strings_at = record {
  needs = need_places b (grown_by b change) (need_values (dynamic_entries b)) change.needs;
  soname = name_place b (grown_by b change) (dynamic_value b DT_SONAME) change.soname;
  runpath = name_place b (grown_by b change) (dynamic_value b DT_RUNPATH) change.runpath;
  strings_at = strings_at;
  strings_size = new_size b change;
}

-- In the new segment it stands behind the headers.
abbrev pub new_strings_at : List ℕ → Change → ℕ
new_strings_at b change = cond (wants_segment b change) (segment_addr b + headers_size b)
    (strings_at (dynamic_entries b))

unfoldable pub text_places : List ℕ → Change → Places
text_places b change = places_with b change (new_strings_at b change)

unfoldable pub entries_in : List ℕ → Change → List Entry
entries_in b change = new_entries (text_places b change) (dynamic_entries b)
