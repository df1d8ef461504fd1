-- The strings that a change adds, and whether there is anything to do
use Rattle.std.specs.Prelude.{◌&&◌, ◌||◌, ◌==◌, Bool, cond, not, is_some, List, [], ◌∷◌, ◌++◌, ℕ, Option, Some, None, length, map}
use Rattle.std.specs.List.{filter, zip}
use Rattle.std.specs.Str.{bytes_eq}
use Rattle.byte_view.specs.Dynamic.{dynamic_entries}
use Rattle.byte_view.specs.DynamicFlaws.{has_tag}
use Rattle.byte_view.specs.declared.constants.TheConstants.{DT_RPATH, DT_RUNPATH, DT_SONAME}
use Rattle.load_model.specs.Faces.{named_text, needs_of}
use Rattle.load_model.specs.VersionTables.{asks_of}
use Rattle.strtab_grow.specs.Growth.{once}
use Rattle.elf_rewrite.specs.declared.change.Change.{Change}

-- The new texts that differ from the old ones at their places.
abbrev pub changed : List (List ℕ) → List (List ℕ) → List (List ℕ)
changed olds news = map (λ p. p.1) (filter (λ p. not (bytes_eq p.0 p.1)) (zip olds news))

-- The same of a text that may be missing: a new one differs from none.
abbrev pub changed_name : Option (List ℕ) → Option (List ℕ) → List (List ℕ)
changed_name old None = []
changed_name None (Some new) = new ∷ []
changed_name (Some old) (Some new) = cond (bytes_eq old new) [] (new ∷ [])

abbrev pub ask_files : List ℕ → List (List ℕ)
ask_files b = map (λ a. a.file) (asks_of b)

-- The texts that change: needs, the soname, the run path, files of versions.
unfoldable pub changed_texts : List ℕ → Change → List (List ℕ)
changed_texts b change =
    changed (needs_of b) change.needs ++ (changed_name (named_text b DT_SONAME) change.soname
    ++ (changed_name (named_text b DT_RUNPATH) change.runpath
    ++ changed (ask_files b) change.files))

-- Each of them once: the strings that are added.
abbrev pub new_texts : List ℕ → Change → List (List ℕ)
new_texts b change = once (changed_texts b change)

-- A segment is added for new strings.
abbrev pub wants_segment : List ℕ → Change → Bool
wants_segment b change = not (length (changed_texts b change) == 0)

abbrev pub is_dropped : Option (List ℕ) → Option (List ℕ) → Bool
is_dropped old new = is_some old && not (is_some new)

-- An entry is removed.
unfoldable pub removes : List ℕ → Change → Bool
removes b change =
    has_tag DT_RPATH (dynamic_entries b)
    || (is_dropped (named_text b DT_SONAME) change.soname
    || is_dropped (named_text b DT_RUNPATH) change.runpath)

-- Nothing is to do.
abbrev pub is_done : List ℕ → Change → Bool
is_done b change = not (wants_segment b change) && not (removes b change)
