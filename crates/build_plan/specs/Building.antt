-- What is decided of a configuration before any file is written: the load lists of its programs,
-- their split, and the names of the bundled libraries.
use Rattle.std.specs.Prelude.{ℕ, List, ◌∷◌, ◌≡◌, None, Ok, map}
use Rattle.app_config.specs.declared.config.Config.{Config}
use Rattle.app_config.specs.declared.config.Program.{Program}
use Rattle.build_runs.specs.BuildRuns.{AreRuns}
use Rattle.build_runs.specs.declared.programs.Start.{Start}
use Rattle.lib_closure.specs.Splits.{split_of}
use Rattle.lib_closure.specs.declared.splits.Split.{Split}
use Rattle.load_model.specs.World.{World}
use Rattle.load_model.specs.declared.faces.Face.{Face}
use Rattle.load_model.specs.declared.runs.Run.{Run}
use Rattle.name_layout.specs.Layouts.{AreNames, first_name_stop}
use Rattle.name_layout.specs.declared.layouts.Layout.{Layout}

-- The load lists over one table of faces, their split, and a name for each bundled library.
pub record Building : Type 0 where
  pub faces : List Face
  pub runs : List Run
  pub split : Split
  pub layout : Layout

-- The programs of a configuration, the main one first, each with the names that it opens.
abbrev pub start_of : Program → Start
start_of program = record { path = program.path; opens = program.opens }

abbrev pub starts_of : Config → List Start
starts_of config = start_of config.main ∷ map start_of config.tools

-- The load lists that the programs have in a world.
abbrev pub AreRunsOf : World → Config → List Face → List Run → Type 0
AreRunsOf world config faces runs =
    AreRuns config.setting world (starts_of config) faces runs

-- The split of the load lists, which is no clash, and the names, none of which is refused.
pub record IsPlan (names : List (List ℕ)) (b : Building) : Type 0 where
  pub split : split_of b.faces b.runs names ≡ Ok b.split
  pub named : first_name_stop b.faces b.runs b.split names ≡ None
  pub layout : AreNames b.faces b.runs b.split names b.layout.libs

-- All of this, of the programs in a world.
pub record IsBuilding (world : World) (config : Config) (b : Building) : Type 0 where
  pub runs : AreRunsOf world config b.faces b.runs
  pub plan : IsPlan config.names b
