use Rattle.std.proofs.Common.{◌≡◌, ◌++◌}
use Rattle.load_model.specs.Bindings.{binds_of_object}
use Rattle.loader_replay.proofs.BindingLemmas.{left_from}
use Rattle.loader_replay.proofs.bindings.add_object.Given as goal

abbrev pub invariant-loop-sym : goal.invariant-loop-sym
invariant-loop-sym g l =
    (l.binder ≡ l.initial.binder)
    × (l.binds ++ left_from l.initial.binder.faces l.initial.binder.run l.obj l.sym ≡ l.initial.binds ++ binds_of_object l.initial.binder.faces l.initial.binder.run l.obj)
