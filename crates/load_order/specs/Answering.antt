-- What a load answers: the load list or its first stop, up to want of memory and reads that failed.
use Rattle.std.specs.Prelude.{ℕ, List, ◌≡◌, Result, Ok, Err}
use Rattle.answers.specs.Faults.{Rose}
use Rattle.answers.specs.Told.{WhereTold}
use Rattle.load_model.specs.Faces.{face_or_flaw}
use Rattle.load_model.specs.Loads.{IsStopped}
use Rattle.load_model.specs.Opening.{OpenerView}
use Rattle.load_model.specs.Replays.{Loads}
use Rattle.load_model.specs.Runs.{HasSmallLoaders, IsRunOver}
use Rattle.load_model.specs.declared.runs.Run.{Run}
use Rattle.load_model.specs.declared.setting.Setting.{Setting}
use Rattle.load_requests.specs.Loading.{IsRead, IsRefusedBy, refusal_of}
use Rattle.load_requests.specs.declared.stops.LoadStop.{LoadStop}

abbrev pub IsLoadAnswer : Setting → OpenerView → OpenerView → List ℕ → List (List ℕ)
    → Result Run LoadStop → Type 0
IsLoadAnswer setting before after start opens (Ok run) =
    IsRunOver after.faces run × HasSmallLoaders run × (run.opens ≡ opens)
    × WhereTold before.told (λ world. Loads face_or_flaw setting world after.faces start opens run)
IsLoadAnswer setting before after start opens (Err stop) =
    WhereTold before.told (λ world. IsRefusedBy (IsStopped face_or_flaw setting world start opens)
    (refusal_of stop))
    × (IsRead stop → Rose before.faults after.faults)
