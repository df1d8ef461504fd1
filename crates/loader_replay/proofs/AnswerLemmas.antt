-- What a stop of the check answers, from what the load list answers.
use Rattle.std.proofs.Common.{◌≡◌, subst, ℕ, inr, List, Option, Some, None, Ok}
use Rattle.load_model.specs.Faces.{face_or_flaw}
use Rattle.load_model.specs.Opening.{OpenerView}
use Rattle.load_model.specs.Replays.{IsReplayStop, Loads}
use Rattle.load_model.specs.World.{World}
use Rattle.load_model.specs.declared.faces.Face.{Face}
use Rattle.load_model.specs.declared.refusals.LoadRefusal.{LoadRefusal}
use Rattle.load_model.specs.declared.runs.Run.{Run}
use Rattle.load_model.specs.declared.setting.Setting.{Setting}
use Rattle.load_order.specs.Answering.{IsLoadAnswer}
use Rattle.load_requests.specs.Loading.{IsRefusedBy}
use Rattle.loader_replay.specs.Answering.{IsStopAnswer, replay_refusal_of}
use Rattle.loader_replay.specs.Checking.{IsStopOf, RefusesFirst}
use Rattle.loader_replay.specs.declared.stops.ReplayStop.{ReplayStop}

module _ (setting : Setting) (world : World) (start : List ℕ) (opens : List (List ℕ)) where
  by_check : (o : Option LoadRefusal) (faces : List Face) (run : Run) → Loads face_or_flaw setting world faces start opens run → IsRefusedBy (RefusesFirst faces run) o → IsRefusedBy (IsReplayStop face_or_flaw setting world start opens) o
  by_check None faces run loads h = tt
  by_check (Some refusal) faces run loads h =
      inr (record {
        faces = faces;
        run = run;
        loads = loads;
        first = h.first;
        unmet = h.unmet;
        refused = h.refused;
      })

module _ (setting : Setting) (before after : OpenerView) (start : List ℕ) (opens : List (List ℕ)) where
  pub check_stopped : (faces : List Face) (run : Run) (stop : ReplayStop) → faces ≡ after.faces → IsLoadAnswer setting before after start opens (Ok run) → IsStopOf faces run stop → IsStopAnswer setting before after start opens stop
  check_stopped faces run stop same a h = (
    λ world t. by_check setting world start opens (replay_refusal_of stop) after.faces run (a.3 world t)
        (subst (λ fs. IsRefusedBy (RefusesFirst fs run) (replay_refusal_of stop)) same h.refused),
    λ e. absurd (h.unread e),
  )
