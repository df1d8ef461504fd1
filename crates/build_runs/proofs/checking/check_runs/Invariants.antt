-- the runs so far have all asks met
use Rattle.std.proofs.Common.{ℕ, ◌≡◌, ◌<◌, Some, None, slice_get}
use Rattle.load_model.specs.VersionCheck.{first_unmet}
use Rattle.load_model.specs.declared.runs.Run.{Run}
use Rattle.build_runs.proofs.checking.check_runs.Given as goal

abbrev pub invariant-loop-run : goal.invariant-loop-run
invariant-loop-run l = (k : ℕ) (other : Run) → k < l.run-index → slice_get l.runs k ≡ Some other → first_unmet l.faces other ≡ None
