-- the runs so far, with faces at as many places as they have objects
use Rattle.std.proofs.Common.{◌≡◌, length}
use Rattle.build_runs.specs.BuildRuns.{face_places}
use Rattle.build_runs.specs.Ordering.{numbered}
use Rattle.build_runs.proofs.ordering.numbered_runs.Given as goal

abbrev pub invariant-loop-run : goal.invariant-loop-run
invariant-loop-run l = record {
  all : l.all ≡ numbered 0 l.yielded;
  place : l.place ≡ length (face_places l.yielded);
}
