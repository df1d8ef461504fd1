use Rattle.std.proofs.Common.{◌≡◌}
use Rattle.std.specs.List.{flat_map}
use Rattle.load_model.specs.Bindings.{binds_of_object}
use Rattle.load_model.specs.LoadList.{up_to}
use Rattle.loader_replay.proofs.bindings.binds_of.Given as goal

abbrev pub invariant-loop-obj : goal.invariant-loop-obj
invariant-loop-obj g l =
    (l.binder.faces ≡ l.fn.faces) × (l.binder.run ≡ l.fn.run)
    × (l.binds ≡ flat_map (binds_of_object l.fn.faces l.fn.run) (up_to l.obj))
