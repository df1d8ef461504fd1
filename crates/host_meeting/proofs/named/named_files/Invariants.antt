use Rattle.std.proofs.Common.{◌≡◌, map, take}
use Rattle.host_meeting.specs.declared.named.NamedFile.{NamedFile}
use Rattle.host_meeting.proofs.named.named_files.Given as goal

abbrev pub invariant-loop-file : goal.invariant-loop-file
invariant-loop-file l = map (λ (n : NamedFile). n.file) l.named.items ≡ take l.file-index l.files
