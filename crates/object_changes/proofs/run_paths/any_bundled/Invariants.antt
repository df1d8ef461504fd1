use Rattle.std.proofs.Common.{◌≡◌, false, take}
use Rattle.std.specs.List.{list_any}
use Rattle.lib_closure.specs.Seen.{standing}
use Rattle.object_changes.specs.Names.{goes_to_bundled}
use Rattle.object_changes.specs.OfNames.{of_names}
use Rattle.object_changes.proofs.run_paths.any_bundled.Given as goal

abbrev pub invariant-loop-number : goal.invariant-loop-number
invariant-loop-number l = list_any (of_names goes_to_bundled l.names (standing l.seen)) (take l.number-index l.numbers) ≡ false
