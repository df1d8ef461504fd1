-- What a replay answers: the run or its first stop, up to want of memory and reads that failed.
use Rattle.std.specs.Prelude.{ℕ, List, ◌≡◌, All, Option, Some, None, Result, Ok, Err}
use Rattle.answers.specs.Faults.{Rose}
use Rattle.answers.specs.Told.{WhereTold}
use Rattle.load_model.specs.Bindings.{IsBindOver, all_binds}
use Rattle.load_model.specs.Faces.{face_or_flaw}
use Rattle.load_model.specs.Opening.{OpenerView}
use Rattle.load_model.specs.Replays.{IsReplay, IsReplayStop, Loads}
use Rattle.load_model.specs.Runs.{HasSmallLoaders, IsRunOver}
use Rattle.load_model.specs.VersionCheck.{first_unmet}
use Rattle.load_model.specs.declared.faces.Face.{Face}
use Rattle.load_model.specs.declared.opening.OpenFault.TheVariants.{Read}
use Rattle.load_model.specs.declared.refusals.LoadRefusal.{LoadRefusal}
use Rattle.load_model.specs.declared.refusals.LoadRefusal.TheVariants.{UnsatisfiedVersion, VersionFileUnloaded}
use Rattle.load_model.specs.declared.runs.Replay.{Replay}
use Rattle.load_model.specs.declared.runs.Run.{Run}
use Rattle.load_model.specs.declared.setting.Setting.{Setting}
use Rattle.load_requests.specs.Loading.{IsRefusedBy, refusal_of}
use Rattle.load_requests.specs.declared.stops.LoadStop.TheVariants.{Search}
use Rattle.loader_replay.specs.declared.stops.ReplayStop.{ReplayStop}
use Rattle.loader_replay.specs.declared.stops.ReplayStop.TheVariants.{Load, Unloaded, Unsatisfied, NoMemory}
use Rattle.search_paths.specs.declared.hits.SearchStop.TheVariants.{Open}

-- What a stop says of the run: nothing for want of memory and for a read that failed.
abbrev pub replay_refusal_of : ReplayStop → Option LoadRefusal
replay_refusal_of (Load stop) = refusal_of stop
replay_refusal_of (Unloaded by file) = Some (VersionFileUnloaded by file)
replay_refusal_of (Unsatisfied by file version) = Some (UnsatisfiedVersion by file version)
replay_refusal_of NoMemory = None

-- The stop is a read that failed.
abbrev pub IsReadStop : ReplayStop → Type 0
IsReadStop stop = stop ≡ Load (Search (Open Read))

-- A stop: what it refuses is the first stop of the run, and where a read failed the count of faults
-- rose.
abbrev pub IsStopAnswer : Setting → OpenerView → OpenerView → List ℕ → List (List ℕ) → ReplayStop
    → Type 0
IsStopAnswer setting before after start opens stop =
    WhereTold before.told (λ world. IsRefusedBy
    (IsReplayStop face_or_flaw setting world start opens) (replay_refusal_of stop))
    × (IsReadStop stop → Rose before.faults after.faults)

-- The load list of a program whose versions are all met, or the first stop.
abbrev pub IsCheckedAnswer : Setting → OpenerView → OpenerView → List ℕ → List (List ℕ)
    → Result Run ReplayStop → Type 0
IsCheckedAnswer setting before after start opens (Ok run) =
    IsRunOver after.faces run × HasSmallLoaders run × (run.opens ≡ opens)
    × (first_unmet after.faces run ≡ None)
    × WhereTold before.told (λ world. Loads face_or_flaw setting world after.faces start opens run)
IsCheckedAnswer setting before after start opens (Err stop) =
    IsStopAnswer setting before after start opens stop

-- The run with the bindings of all references, or the first stop.
abbrev pub IsReplayAnswer : Setting → OpenerView → OpenerView → List ℕ → List (List ℕ)
    → Result Replay ReplayStop → Type 0
IsReplayAnswer setting before after start opens (Ok replay) =
    IsRunOver after.faces replay.run × All (IsBindOver after.faces replay.run) replay.binds
    × (replay.binds ≡ all_binds after.faces replay.run)
    × WhereTold before.told
    (λ world. IsReplay face_or_flaw setting world after.faces start opens replay)
IsReplayAnswer setting before after start opens (Err stop) =
    IsStopAnswer setting before after start opens stop

-- The run, with the bindings of all its references.
pub record IsBound (faces : List Face) (run : Run) (replay : Replay) : Type 0 where
  pub run_is : replay.run ≡ run
  pub binds : replay.binds ≡ all_binds faces replay.run
  pub over : All (IsBindOver faces replay.run) replay.binds
