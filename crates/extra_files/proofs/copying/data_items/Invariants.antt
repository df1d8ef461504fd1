use Rattle.std.proofs.Common.{◌≡◌, All, Some, Ok, take}
use Rattle.appdir_files.specs.Writing.{IsProbed}
use Rattle.load_model.specs.World.{World}
use Rattle.ports.specs.View.{OnlyReads}
use Rattle.extra_files.specs.Copying.{AreDataItems}
use Rattle.extra_files.proofs.copying.data_items.Given as goal

abbrev pub invariant-files : goal.invariant-files
invariant-files g l = record {
  reads : OnlyReads (g.T.Tree.seen l.initial.tree) (g.T.Tree.seen l.tree);
  probed : All (IsProbed (g.T.Tree.seen l.initial.tree).told) l.items;
  right : (world : World) → (g.T.Tree.seen l.initial.tree).told ≡ Some world → AreDataItems world (take l.file-index l.files) (Ok l.items);
}
