-- What loading all programs answers, and what is known of the runs over every tree.
use Rattle.std.specs.Prelude.{ℕ, List, ◌≡◌, All, None, Result, Ok, Err}
use Rattle.std.specs.List.{AllZip}
use Rattle.answers.specs.Faults.{Rose}
use Rattle.answers.specs.Told.{WhereTold}
use Rattle.load_model.specs.Opening.{AreFew}
use Rattle.load_model.specs.Runs.{HasSmallLoaders, IsRunOver}
use Rattle.load_model.specs.VersionCheck.{first_unmet}
use Rattle.load_model.specs.World.{World}
use Rattle.load_model.specs.declared.faces.Face.{Face}
use Rattle.load_model.specs.declared.runs.Run.{Run}
use Rattle.load_model.specs.declared.setting.Setting.{Setting}
use Rattle.ports.specs.View.{View}
use Rattle.tree_opener.specs.Names.{IsFaceFor}
use Rattle.build_runs.specs.BuildRuns.{AreRuns, IsTableInOrder}
use Rattle.build_runs.specs.FirstStops.{IsFirstStop}
use Rattle.build_runs.specs.declared.loading.LoadedRuns.{LoadedRuns}
use Rattle.build_runs.specs.declared.programs.Start.{Start}
use Rattle.build_runs.specs.declared.stops.LoadsStop.{LoadsStop}
use Rattle.build_runs.specs.declared.stops.LoadsStop.TheVariants.{Refused, Read, NoMemory}

-- In the world that the tree tells the runs of the programs, or their first stop; a read fails only
-- where the count of faults rose; want of memory is free.
abbrev pub IsLoadsAnswer : Setting → View World → View World → List Start
    → Result LoadedRuns LoadsStop → Type 0
IsLoadsAnswer setting before after programs (Ok loaded) =
    WhereTold before.told (λ world. AreRuns setting world programs loaded.table.faces loaded.runs)
IsLoadsAnswer setting before after programs (Err (Refused refusal)) =
    WhereTold before.told (λ world. IsFirstStop setting world programs refusal)
IsLoadsAnswer setting before after programs (Err Read) = Rose before.faults after.faults
IsLoadsAnswer setting before after programs (Err NoMemory) = Unit {0}

-- What is known of a run over every tree.
pub record IsSafeRun (faces : List Face) (program : Start) (run : Run) : Type 0 where
  pub over : IsRunOver faces run
  pub loaders : HasSmallLoaders run
  pub opens : run.opens ≡ program.opens
  pub met : first_unmet faces run ≡ None

-- The same of all runs of a build, whose faces are those of files for this machine.
pub record AreSafeRuns (machine : ℕ) (programs : List Start) (faces : List Face)
    (runs : List Run) : Type 0 where
  pub each : AllZip (IsSafeRun faces) programs runs
  pub in_order : IsTableInOrder faces runs
  pub known : All (IsFaceFor machine) faces
  pub few : AreFew faces
