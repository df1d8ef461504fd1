use Rattle.std.proofs.Common.{◌≡◌, Some, map, take}
use Rattle.host_meeting.specs.Files.{object_found, object_of}
use Rattle.host_meeting.proofs.found.files_of.Given as goal

abbrev pub invariant-loop-file : goal.invariant-loop-file
invariant-loop-file l = map (λ f. Some (object_of f)) l.files.items ≡ map (λ f. Some (object_found f)) (take l.file-index l.found)
