-- What loading all programs over an opener answers, before the versions are checked and after.
use Rattle.std.specs.Prelude.{ℕ, List, ◌≡◌, Option}
use Rattle.answers.specs.Faults.{Rose}
use Rattle.answers.specs.Told.{WhereTold}
use Rattle.load_model.specs.Faces.{face_or_flaw}
use Rattle.load_model.specs.Opening.{OpenerView}
use Rattle.load_model.specs.Replays.{Loads}
use Rattle.load_model.specs.Runs.{HasSmallLoaders, IsRunOver}
use Rattle.load_model.specs.World.{World}
use Rattle.load_model.specs.declared.faces.Face.{Face}
use Rattle.load_model.specs.declared.runs.Run.{Run}
use Rattle.load_model.specs.declared.setting.Setting.{Setting}
use Rattle.load_requests.specs.Loading.{IsRead, IsRefusedBy, refusal_of}
use Rattle.load_requests.specs.declared.stops.LoadStop.{LoadStop}
use Rattle.loader_replay.specs.Answering.{IsReadStop, replay_refusal_of}
use Rattle.loader_replay.specs.declared.stops.ReplayStop.{ReplayStop}
use Rattle.build_runs.specs.FirstStops.{HasLoadList, IsFirstStop, LoadStops, StopsFirst}
use Rattle.build_runs.specs.declared.programs.Start.{Start}

-- What is known over every tree of a run whose versions are not checked.
pub record IsSafeList (faces : List Face) (program : Start) (run : Run) : Type 0 where
  pub over : IsRunOver faces run
  pub loaders : HasSmallLoaders run
  pub opens : run.opens ≡ program.opens

-- The run is the load list of the program over these faces.
abbrev pub IsListFor : Setting → World → List Face → Start → Run → Type 0
IsListFor setting world faces program run =
    Loads face_or_flaw setting world faces program.path program.opens run

-- A stop of the load lists: what it refuses is the first, and where a read failed the count of
-- faults rose.
pub record IsLoadsStop (setting : Setting) (before after : OpenerView) (programs : List Start)
    (stop : LoadStop) : Type 0 where
  pub refused : WhereTold before.told (λ world. IsRefusedBy (StopsFirst (HasLoadList setting world)
      (LoadStops setting world) programs) (refusal_of stop))
  pub read : IsRead stop → Rose before.faults after.faults

-- The same of load lists and versions, over what is told and what the counts of faults are.
pub record IsBuildStop (setting : Setting) (told : Option World) (before after : ℕ)
    (programs : List Start) (stop : ReplayStop) : Type 0 where
  pub refused : WhereTold told
      (λ world. IsRefusedBy (IsFirstStop setting world programs) (replay_refusal_of stop))
  pub read : IsReadStop stop → Rose before after
