use Rattle.std.proofs.Common.{◌≤◌, ◌-◌}
use Rattle.ports.specs.View.{OnlyReads}
use Rattle.appdir_files.specs.Writing.{IsBegun, IsFrontAdded}
use Rattle.appdir_files.proofs.copying.append_copy.Given as goal

abbrev pub invariant-copy : goal.invariant-copy
invariant-copy g l = record {
  within : l.at ≤ l.len;
  begun : IsBegun (g.O.OutDir.seen l.out);
  added : IsFrontAdded (g.T.Tree.seen l.initial.tree).told l.from l.at (g.O.OutDir.seen l.initial.out) (g.O.OutDir.seen l.out);
  reads : OnlyReads (g.T.Tree.seen l.initial.tree) (g.T.Tree.seen l.tree);
  faults : (g.O.OutDir.seen l.initial.out).faults ≤ (g.O.OutDir.seen l.out).faults;
}

abbrev pub decreases-copy : goal.decreases-copy
decreases-copy g l = l.len - l.at
