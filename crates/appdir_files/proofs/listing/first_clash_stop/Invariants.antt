use Rattle.std.proofs.Common.{◌≡◌, [], drop, take}
use Rattle.appdir_files.specs.Listing.{AreTaken, first_clash_stop}
use Rattle.appdir_files.proofs.listing.first_clash_stop.Given as goal

abbrev pub invariant-loop-item : goal.invariant-loop-item
invariant-loop-item l = record {
  taken : AreTaken (take l.item-index l.items) l.paths l.folders;
  rest : first_clash_stop (take l.item-index l.items) (drop l.item-index l.items) ≡ first_clash_stop [] l.items;
}
