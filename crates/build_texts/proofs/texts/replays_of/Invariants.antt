-- the load lists so far with their bindings, and those that are left
use Rattle.std.proofs.Common.{◌≡◌, ◌++◌, All, map}
use Rattle.std.specs.Vec.Iter.{into_iter_items}
use Rattle.load_model.specs.Bindings.{IsBindOver}
use Rattle.load_model.specs.Runs.{IsRunOver}
use Rattle.load_model.specs.declared.runs.Replay.{Replay}
use Rattle.build_texts.specs.Texts.{replay_in}
use Rattle.build_texts.proofs.texts.replays_of.Given as goal

abbrev pub invariant-runs : goal.invariant-runs
invariant-runs l = record {
  replays : l.replays ++ map (replay_in l.faces) (into_iter_items l.run-iterator) ≡ map (replay_in l.faces) l.fn.runs;
  over : All (λ (r : Replay). All (IsBindOver l.faces r.run) r.binds) l.replays;
  left : All (IsRunOver l.faces) (into_iter_items l.run-iterator);
}
