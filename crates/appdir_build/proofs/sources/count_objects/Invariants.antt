use Rattle.std.proofs.Common.{◌≡◌, take}
use Rattle.std.specs.List.{sum_by}
use Rattle.appdir_build.specs.Outcome.{object_count}
use Rattle.appdir_build.proofs.sources.count_objects.Given as goal

abbrev pub invariant-loop-run : goal.invariant-loop-run
invariant-loop-run l = l.count ≡ sum_by object_count (take l.run-index l.runs)
