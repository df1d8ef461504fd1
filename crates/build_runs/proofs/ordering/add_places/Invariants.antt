-- the places so far, and those of the objects that are left
use Rattle.std.proofs.Common.{◌≡◌, ◌++◌, drop}
use Rattle.build_runs.specs.BuildRuns.{places_in}
use Rattle.build_runs.proofs.ordering.add_places.Given as goal

abbrev pub invariant-loop-obj : goal.invariant-loop-obj
invariant-loop-obj l = l.places ++ places_in (drop l.obj-index l.objs) ≡ l.initial.places ++ places_in l.objs
