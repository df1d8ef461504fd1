use Rattle.std.proofs.Common.{◌≡◌, map, take}
use Rattle.lib_closure.specs.Seen.{standing}
use Rattle.object_changes.specs.Changing.{changes_of_programs}
use Rattle.object_changes.specs.OfNames.{of_names}
use Rattle.object_changes.proofs.changing.program_changes.Given as goal

abbrev pub invariant-loop-place : goal.invariant-loop-place
invariant-loop-place l = l.changes ≡ of_names changes_of_programs l.names (map standing (take l.place l.programs))
