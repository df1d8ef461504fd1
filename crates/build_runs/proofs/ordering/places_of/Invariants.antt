-- the places so far, and those of the runs that are left
use Rattle.std.proofs.Common.{◌≡◌, ◌++◌, drop}
use Rattle.build_runs.specs.BuildRuns.{face_places}
use Rattle.build_runs.proofs.ordering.places_of.Given as goal

abbrev pub invariant-loop-run : goal.invariant-loop-run
invariant-loop-run l = l.places ++ face_places (drop l.run-index l.runs) ≡ face_places l.runs
