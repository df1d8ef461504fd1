use Rattle.host_meeting.proofs.NamedLemmas.{files_next}
use Rattle.host_meeting.proofs.named.named_files.Goals as goal

pub loop-file-preserved : goal.loop-file-preserved
loop-file-preserved c =
    files_next c.loop-file.named.items c.push.new.self.items c.args.files.now c.loop-file.file-index c.in_ok-next.next c.file-item.result
    c.loop-file-test.true c.file-item.is c.loop-file.invariant c.in_ok-next.ensures c.in-Ok.ensures.items
