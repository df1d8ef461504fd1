-- The names by which the objects of a run of a build are asked for in its directory, and which of
-- them lie in it.
use Rattle.std.specs.Prelude.{ℕ, List, [], Bool, ◌≡◌, Some, is_some, map, slice_get}
use Rattle.std.specs.Option.{option_and_then, unwrap_or}
use Rattle.app_config.specs.declared.config.Config.{Config}
use Rattle.build_plan.specs.Building.{Building, starts_of}
use Rattle.build_runs.specs.declared.programs.Start.{Start}
use Rattle.build_texts.specs.Places.{program_places}
use Rattle.load_model.specs.declared.runs.Obj.{Obj}
use Rattle.load_model.specs.declared.runs.Run.{Run}
use Rattle.moved_runs.specs.Placed.{Item}
use Rattle.name_layout.specs.Openings.{lib_with}
use Rattle.object_changes.specs.Names.{new_name_of}
use Rattle.ports.specs.declared.folders.MemFile.{MemFile}

-- The file name of a bundled library, and the key of a host library.
abbrev pub name_in : Building → Run → ℕ → List ℕ
name_in b run j =
    unwrap_or
    (option_and_then (λ (o : Obj). new_name_of b.split b.layout o.id) (slice_get run.objs j)) []

abbrev pub is_bundled_in : Building → Run → ℕ → Bool
is_bundled_in b run j =
    is_some (option_and_then (λ (o : Obj). lib_with b.split o.id) (slice_get run.objs j))

-- The files of a directory, as they lie at a place.
abbrev pub as_placed : MemFile → Item
as_placed file = record { path = file.path; bytes = file.bytes }

abbrev pub as_items : List MemFile → List Item
as_items files = map as_placed files

-- A program of a build: where it starts, the run that it has, and the path of its file in the
-- directory.
pub record IsProgramOf (config : Config) (b : Building) (number : ℕ) (start : Start) (run : Run)
    (path : List ℕ) : Type 0 where
  pub starts : slice_get (starts_of config) number ≡ Some start
  pub runs : slice_get b.runs number ≡ Some run
  pub lies : slice_get (program_places config) number ≡ Some path
