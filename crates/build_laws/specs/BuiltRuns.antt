-- What is known of the run of a program of a build.
use Rattle.std.specs.Prelude.{ℕ, List, All}
use Rattle.app_config.specs.declared.config.Config.{Config}
use Rattle.build_plan.specs.Building.{Building, IsBuilding}
use Rattle.build_runs.specs.declared.programs.Start.{Start}
use Rattle.build_texts.specs.Texts.{replay_in}
use Rattle.load_model.specs.Faces.{face_or_flaw}
use Rattle.load_model.specs.Replays.{IsReplay}
use Rattle.load_model.specs.Runs.{IsRunOver}
use Rattle.load_model.specs.World.{World}
use Rattle.load_model.specs.declared.runs.Run.{Run}
use Rattle.build_laws.specs.Sources.{IsSource}
use Rattle.build_laws.specs.Renaming.{IsProgramOf}

pub record IsRunIn (world : World) (config : Config) (b : Building) (number : ℕ) (start : Start)
    (run : Run) (path : List ℕ) : Type 0 where
  pub source : IsSource world config
  pub builds : IsBuilding world config b
  pub over : All (IsRunOver b.faces) b.runs
  pub is : IsProgramOf config b number start run path
  pub plays : IsReplay face_or_flaw config.setting world b.faces start.path start.opens
      (replay_in b.faces run)
