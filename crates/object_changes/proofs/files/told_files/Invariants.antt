use Rattle.std.proofs.Common.{◌≡◌, map, take}
use Rattle.lib_closure.specs.Seen.{standing}
use Rattle.object_changes.specs.Changing.{first_told}
use Rattle.object_changes.proofs.files.told_files.Given as goal

abbrev pub invariant-loop-ask : goal.invariant-loop-ask
invariant-loop-ask l = l.files ≡ map (first_told l.table (standing l.seen)) (take l.ask-index l.ask-items)
