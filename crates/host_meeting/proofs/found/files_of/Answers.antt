use Rattle.std.proofs.Common.{Some, ap}
use Rattle.host_meeting.proofs.FileLemmas.{mapped_next}
use Rattle.host_meeting.specs.Files.{object_found, object_of}
use Rattle.host_meeting.specs.declared.files.LibFile.{LibFile}
use Rattle.host_meeting.specs.declared.files.FoundFile.{FoundFile}
use Rattle.host_meeting.proofs.found.files_of.Goals as goal

pub loop-file-preserved : goal.loop-file-preserved
loop-file-preserved c =
    mapped_next (λ (f : LibFile). Some (object_of f)) (λ (f : FoundFile). Some (object_found f)) c.loop-file.files.items c.push.new.self.items c.file_of.result c.args.found.now c.loop-file.file-index c.file-item.result
    c.loop-file-test.true c.file-item.is c.loop-file.invariant (ap Some c.file_of.ensures) c.in-Ok.ensures.items
