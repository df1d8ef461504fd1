use Rattle.std.proofs.Common.{◌≡◌, drop, map}
use Rattle.answers.specs.First.{first_some}
use Rattle.appdir_files.specs.Listing.{lib_stop}
use Rattle.appdir_files.proofs.listing.first_lib_stop.Given as goal

abbrev pub invariant-loop-item : goal.invariant-loop-item
invariant-loop-item l =
    first_some (map lib_stop (drop l.item-index l.items)) ≡ first_some (map lib_stop l.items)
