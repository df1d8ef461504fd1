use Rattle.std.proofs.Common.{◌≤◌, take}
use Rattle.ports.specs.Folder.{IsClosed}
use Rattle.ports.specs.View.{OnlyReads}
use Rattle.appdir_files.specs.Writing.{IsWritten}
use Rattle.appdir_files.proofs.writing.write_all.Given as goal

abbrev pub invariant-loop-item : goal.invariant-loop-item
invariant-loop-item g l = record {
  closed : IsClosed (g.O.OutDir.seen l.out);
  written : IsWritten (g.T.Tree.seen l.initial.tree).told (take l.item-index l.items) (g.O.OutDir.seen l.initial.out) (g.O.OutDir.seen l.out);
  reads : OnlyReads (g.T.Tree.seen l.initial.tree) (g.T.Tree.seen l.tree);
  faults : (g.O.OutDir.seen l.initial.out).faults ≤ (g.O.OutDir.seen l.out).faults;
}
