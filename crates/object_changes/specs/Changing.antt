-- Which texts each program and each bundled library gets in the directory.
use Rattle.std.specs.Prelude.{ℕ, List, [], ◌∷◌, Bool, ◌||◌, Option, None, codes, map}
use Rattle.std.specs.List.{filter_map, find, list_any}
use Rattle.std.specs.Option.{option_map, unwrap_or}
use Rattle.answers.specs.First.{some_where}
use Rattle.elf_rewrite.specs.declared.change.Change.{Change}
use Rattle.lib_closure.specs.Objects.{Occurrence, first_places, has_id, own_asks, own_needs, own_targets, programs_of}
use Rattle.lib_closure.specs.declared.splits.Member.{Member}
use Rattle.lib_closure.specs.declared.splits.Split.{Split}
use Rattle.load_model.specs.declared.asks.Ask.{Ask}
use Rattle.load_model.specs.declared.faces.Face.{Face}
use Rattle.load_model.specs.declared.runs.Run.{Run}
use Rattle.name_layout.specs.declared.layouts.Layout.{Layout}
use Rattle.object_changes.specs.NamedFiles.{NamedFile, all_files_named, asked_name, told_name}
use Rattle.object_changes.specs.Names.{goes_to_bundled, name_beside, new_name_of}
use Rattle.object_changes.specs.declared.changes.Changes.{Changes}

-- Libraries lie in usr/lib. They are found from the first program, which lies at the top as AppRun,
-- from the other programs, which lie in usr/bin, and from one another.
abbrev pub run_path_of_first : List ℕ
run_path_of_first = codes "$ORIGIN/usr/lib"

abbrev pub run_path_of_others : List ℕ
run_path_of_others = codes "$ORIGIN/../lib"

abbrev pub run_path_of_libs : List ℕ
run_path_of_libs = codes "$ORIGIN"

-- Each version file of a library becomes the name of the object that it names at the first place of
-- all at which it names one; where it names none it stays.
abbrev pub first_told : List NamedFile → Occurrence → Ask → List ℕ
first_told named o ask = unwrap_or (told_name named o.obj.id ask.file) ask.file

unfoldable pub told_files : List NamedFile → Occurrence → List (List ℕ)
told_files named o = map (first_told named o) o.face.asks

-- A library is changed by its first place.
abbrev pub first_of_lib : List Occurrence → Member → Option Occurrence
first_of_lib firsts lib = find (has_id lib.id) firsts

module _ (split : Split) (layout : Layout) where
  -- Each need becomes the name of its target.
  abbrev pub new_need : Occurrence → (List ℕ × ℕ) → List ℕ
  new_need o need = unwrap_or (name_beside split layout o need.1) need.0

  unfoldable pub new_needs : Occurrence → List (List ℕ)
  new_needs o = map (new_need o) (own_needs o)

  -- The same of a program, by its own load list alone.
  abbrev pub own_file : Occurrence → (Ask × Option ℕ) → List ℕ
  own_file o asked = unwrap_or (asked_name split layout o asked) asked.0.file

  unfoldable pub own_files : Occurrence → List (List ℕ)
  own_files o = map (own_file o) (own_asks o)

  -- A soname becomes the file name of the library.
  abbrev pub new_soname : Occurrence → List ℕ → List ℕ
  new_soname o soname = unwrap_or (new_name_of split layout o.obj.id) soname

  -- A need, or a name that a program opens, goes to a bundled library.
  unfoldable pub has_bundled_need : Occurrence → Bool
  has_bundled_need o = list_any (goes_to_bundled split layout o) (own_targets o)

  unfoldable pub has_bundled_root : Occurrence → Bool
  has_bundled_root o = list_any (goes_to_bundled split layout o) o.run.roots

  -- A program loses its soname. No RPATH is left, and a run path stands where it is used.
  unfoldable pub change_of_program : List ℕ → Occurrence → Change
  change_of_program run_path o = record {
    needs = new_needs o;
    soname = None;
    runpath = some_where (has_bundled_need o || has_bundled_root o) run_path;
    files = own_files o;
  }

  unfoldable pub change_of_lib : List NamedFile → Occurrence → Change
  change_of_lib named o = record {
    needs = new_needs o;
    soname = option_map (new_soname o) o.face.soname;
    runpath = some_where (has_bundled_need o) run_path_of_libs;
    files = told_files named o;
  }

  unfoldable pub changes_of_programs : List Occurrence → List Change
  changes_of_programs [] = []
  changes_of_programs (first ∷ others) =
      change_of_program run_path_of_first first
      ∷ map (change_of_program run_path_of_others) others

  abbrev pub change_if_placed : List NamedFile → List Occurrence → Member → Option Change
  change_if_placed named firsts lib =
      option_map (change_of_lib named) (first_of_lib firsts lib)

  unfoldable pub changes_of_libs : List NamedFile → List Occurrence → List Change
  changes_of_libs named firsts = filter_map (change_if_placed named firsts) split.libs

-- In the order of the split.
unfoldable pub changes_of : List Face → List Run → Split → Layout → Changes
changes_of faces runs split layout = record {
  programs = changes_of_programs split layout (programs_of faces runs);
  libs = changes_of_libs split layout (all_files_named split layout faces runs)
      (first_places faces runs);
}
