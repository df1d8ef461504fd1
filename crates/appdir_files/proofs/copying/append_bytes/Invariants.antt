use Rattle.std.proofs.Common.{◌≤◌, ◌-◌, length, take}
use Rattle.ports.specs.Folder.{grown}
use Rattle.ports.specs.View.{Became}
use Rattle.appdir_files.specs.Writing.{IsBegun}
use Rattle.appdir_files.proofs.copying.append_bytes.Given as goal

abbrev pub invariant-pieces : goal.invariant-pieces
invariant-pieces g l = record {
  within : l.at ≤ length l.bytes;
  begun : IsBegun (g.O.OutDir.seen l.out);
  added : Became (grown (take l.at l.bytes)) (g.O.OutDir.seen l.initial.out) (g.O.OutDir.seen l.out);
  faults : (g.O.OutDir.seen l.initial.out).faults ≤ (g.O.OutDir.seen l.out).faults;
}

abbrev pub decreases-pieces : goal.decreases-pieces
decreases-pieces g l = length l.bytes - l.at
