use Rattle.std.proofs.Common.{Some}
use Rattle.host_meeting.proofs.FileLemmas.{mapped_next}
use Rattle.host_meeting.specs.Files.{object_at, object_found}
use Rattle.host_meeting.specs.declared.files.FoundFile.{FoundFile}
use Rattle.host_meeting.proofs.found.found_files.Goals as goal

pub loop-lib-preserved : goal.loop-lib-preserved
loop-lib-preserved c =
    mapped_next (λ (f : FoundFile). Some (object_found f)) (object_at c.args.faces.now) c.loop-lib.files.items c.push.new.self.items c.in_ok-file.file c.args.found.now c.loop-lib.lib-index c.lib-item.result
    c.loop-lib-test.true c.lib-item.is c.loop-lib.invariant c.in_ok-file.ensures c.in-Ok.ensures.items
