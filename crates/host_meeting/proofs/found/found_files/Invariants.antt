use Rattle.std.proofs.Common.{◌≡◌, Some, map, take}
use Rattle.host_meeting.specs.Files.{object_at, object_found}
use Rattle.host_meeting.proofs.found.found_files.Given as goal

abbrev pub invariant-loop-lib : goal.invariant-loop-lib
invariant-loop-lib l = map (λ f. Some (object_found f)) l.files.items ≡ map (object_at l.faces) (take l.lib-index l.found)
