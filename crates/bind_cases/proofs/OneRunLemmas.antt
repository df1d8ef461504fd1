-- What holds of one run holds of the list of it.
use Rattle.std.proofs.Common.{ℕ, List, [], ◌∷◌, ◌≡◌, ap, map, length}
use Rattle.std.specs.Prelude.{All, codes}
use Rattle.std.proofs.lemmas.List.{length-map}
use Rattle.std.proofs.lemmas.List.Elements.{All-cons, All-nil}
use Rattle.load_model.specs.Bindings.{IsBindOver}
use Rattle.load_model.specs.Runs.{IsRunOver}
use Rattle.load_model.specs.declared.faces.Face.{Face}
use Rattle.load_model.specs.declared.runs.Obj.{Obj}
use Rattle.load_model.specs.declared.runs.Replay.{Replay}
use Rattle.bind_report.specs.Places.{no_places}

pub one_run : (faces : List Face) (replay : Replay) → IsRunOver faces replay.run → All (λ (r : Replay). IsRunOver faces r.run) (replay ∷ [])
one_run faces replay over = All-cons (λ (r : Replay). IsRunOver faces r.run) replay [] over (All-nil (λ (r : Replay). IsRunOver faces r.run))

pub one_binds : (faces : List Face) (replay : Replay) → All (IsBindOver faces replay.run) replay.binds → All (λ (r : Replay). All (IsBindOver faces r.run) r.binds) (replay ∷ [])
one_binds faces replay over = All-cons (λ (r : Replay). All (IsBindOver faces r.run) r.binds) replay [] over (All-nil (λ (r : Replay). All (IsBindOver faces r.run) r.binds))

pub one_place : (replay : Replay) → map length (no_places replay.run.objs ∷ []) ≡ map (λ (r : Replay). length r.run.objs) (replay ∷ [])
one_place replay = ap (λ (n : ℕ). n ∷ []) (length-map replay.run.objs (λ (o : Obj). codes "-"))
