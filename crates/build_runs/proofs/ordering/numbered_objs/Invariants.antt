-- the objects so far, and those that are left, with their faces from the place reached on
use Rattle.std.proofs.Common.{◌≡◌, ◌++◌, ◌+◌, drop}
use Rattle.build_runs.specs.Ordering.{numbered_objs}
use Rattle.build_runs.proofs.ordering.numbered_objs.Given as goal

abbrev pub invariant-loop-obj : goal.invariant-loop-obj
invariant-loop-obj l = record {
  objs : l.all ++ numbered_objs l.place (drop l.obj-index l.objs) ≡ numbered_objs l.initial.place l.objs;
  place : l.place ≡ l.initial.place + l.obj-index;
}
