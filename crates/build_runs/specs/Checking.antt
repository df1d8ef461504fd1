-- The first run, in order, that has an ask that is not met.
use Rattle.std.specs.Prelude.{ℕ, List, ◌≡◌, ◌<◌, Some, None, slice_get}
use Rattle.load_model.specs.VersionCheck.{first_unmet}
use Rattle.load_model.specs.declared.faces.Face.{Face}
use Rattle.load_model.specs.declared.runs.Run.{Run}
use Rattle.loader_replay.specs.Checking.{IsStopOf}
use Rattle.loader_replay.specs.declared.stops.ReplayStop.{ReplayStop}

pub record IsFirstUnmetRun (faces : List Face) (runs : List Run) (stop : ReplayStop) : Type 0 where
  pub number : ℕ
  pub run : Run
  pub stands : slice_get runs number ≡ Some run
  pub earlier : (k : ℕ) (other : Run) → k < number → slice_get runs k ≡ Some other
      → first_unmet faces other ≡ None
  pub stops : IsStopOf faces run stop
