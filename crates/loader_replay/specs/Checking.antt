-- What the check of versions answers, with the names of the ask that is not met.
use Rattle.std.specs.Prelude.{List, ◌≡◌, Some, None, Result, Ok, Err}
use Rattle.load_model.specs.Replays.{IsRefusedAsk, refusal_by}
use Rattle.load_model.specs.VersionCheck.{FileUnloaded, Unmet, UnmetAsk, VersionLacking, first_unmet}
use Rattle.load_model.specs.declared.asks.Ask.{Ask}
use Rattle.load_model.specs.declared.faces.Face.{Face}
use Rattle.load_model.specs.declared.refusals.LoadRefusal.{LoadRefusal}
use Rattle.load_model.specs.declared.runs.Obj.{Obj}
use Rattle.load_model.specs.declared.runs.Run.{Run}
use Rattle.load_requests.specs.Loading.{IsRefusedBy}
use Rattle.loader_replay.specs.Answering.{IsReadStop, replay_refusal_of}
use Rattle.loader_replay.specs.declared.stops.ReplayStop.{ReplayStop}

-- The refusal of an ask of an object, by what keeps it from being met; no read failed.
pub record NamesAsk (why : Unmet) (asker : Obj) (ask : Ask) (stop : ReplayStop) : Type 0 where
  pub refused : IsRefusedBy (λ refusal. refusal ≡ refusal_by why asker.path ask)
      (replay_refusal_of stop)
  pub unread : ¬ IsReadStop stop

abbrev pub NamesUnloaded : Obj → Ask → ReplayStop → Type 0
NamesUnloaded asker ask stop = NamesAsk FileUnloaded asker ask stop

abbrev pub NamesUnsatisfied : Obj → Ask → ReplayStop → Type 0
NamesUnsatisfied asker ask stop = NamesAsk VersionLacking asker ask stop

-- The first ask of a run that is not met is refused so.
pub record RefusesFirst (faces : List Face) (run : Run) (refusal : LoadRefusal) : Type 0 where
  pub first : UnmetAsk
  pub unmet : first_unmet faces run ≡ Some first
  pub refused : IsRefusedAsk faces run first refusal

-- What a stop refuses is the first ask that is not met; no read failed.
pub record IsStopOf (faces : List Face) (run : Run) (stop : ReplayStop) : Type 0 where
  pub refused : IsRefusedBy (RefusesFirst faces run) (replay_refusal_of stop)
  pub unread : ¬ IsReadStop stop

-- All asks are met, or the first that is not is refused.
abbrev pub IsCheck : List Face → Run → Result Unit ReplayStop → Type 0
IsCheck faces run (Ok done) = first_unmet faces run ≡ None
IsCheck faces run (Err stop) = IsStopOf faces run stop
