use Rattle.std.proofs.Common.{◌≡◌, map, take}
use Rattle.std.specs.List.{filter_map}
use Rattle.lib_closure.specs.Seen.{standing}
use Rattle.object_changes.specs.Changing.{change_if_placed}
use Rattle.object_changes.specs.OfNames.{of_names}
use Rattle.object_changes.proofs.changing.lib_changes.Given as goal

abbrev pub invariant-loop-lib : goal.invariant-loop-lib
invariant-loop-lib l = l.changes ≡ filter_map (of_names change_if_placed l.names l.table (map standing l.firsts.seen.items)) (take l.lib-index l.lib-items)
