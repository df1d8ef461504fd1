use Rattle.std.proofs.Common.{◌≡◌, map, take}
use Rattle.lib_closure.specs.Objects.{own_needs}
use Rattle.lib_closure.specs.Seen.{standing}
use Rattle.object_changes.specs.Changing.{new_need}
use Rattle.object_changes.specs.OfNames.{of_names}
use Rattle.object_changes.proofs.needs.new_needs.Given as goal

abbrev pub invariant-loop-place : goal.invariant-loop-place
invariant-loop-place l = l.needs ≡ map (of_names new_need l.names (standing l.seen)) (take l.place (own_needs (standing l.seen)))
