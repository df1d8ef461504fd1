use Rattle.std.proofs.Common.{◌≡◌, All, Some}
use Rattle.appdir_files.specs.Writing.{IsProbed}
use Rattle.load_model.specs.World.{World}
use Rattle.ports.specs.View.{OnlyReads}
use Rattle.appdir_build.specs.Writing.{AreFacedIn, AreFirstOf}
use Rattle.appdir_build.proofs.writing.written_at.Given as goal

abbrev pub invariant-loop-number : goal.invariant-loop-number
invariant-loop-number g l = record {
  reads : OnlyReads (g.T.Tree.seen l.initial.tree) (g.T.Tree.seen l.tree);
  probed : All (IsProbed (g.T.Tree.seen l.initial.tree).told) l.items;
  right : (world : World) → (g.T.Tree.seen l.initial.tree).told ≡ Some world → AreFacedIn world l.objects → AreFirstOf world l.objects l.number l.items;
}
