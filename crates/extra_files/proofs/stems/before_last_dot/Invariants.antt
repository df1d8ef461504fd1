use Rattle.std.proofs.Common.{◌≡◌, ◌≤◌, false, drop, length}
use Rattle.extra_files.specs.Stems.{has_dot}
use Rattle.extra_files.proofs.stems.before_last_dot.Given as goal

abbrev pub invariant-back : goal.invariant-back
invariant-back l = record {
  within : l.end ≤ length l.text;
  none : has_dot (drop l.end l.text) ≡ false;
}

abbrev pub decreases-back : goal.decreases-back
decreases-back l = l.end
