use Rattle.std.proofs.Common.{◌≡◌, map, take}
use Rattle.lib_closure.specs.Objects.{own_asks}
use Rattle.lib_closure.specs.Seen.{standing}
use Rattle.object_changes.specs.Changing.{own_file}
use Rattle.object_changes.specs.OfNames.{of_names}
use Rattle.object_changes.proofs.files.own_files.Given as goal

abbrev pub invariant-loop-place : goal.invariant-loop-place
invariant-loop-place l = l.files ≡ map (of_names own_file l.names (standing l.seen)) (take l.place (own_asks (standing l.seen)))
