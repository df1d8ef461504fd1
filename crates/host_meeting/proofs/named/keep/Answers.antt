use Rattle.host_meeting.proofs.NamedLemmas.{one_more}
use Rattle.host_meeting.proofs.named.keep.Goals as goal

pub returns-in-Ok-insert : goal.returns-in-Ok-insert
returns-in-Ok-insert c =
    one_more c.take.new.kept.entries c.insert.new.self.entries c.as_bytes-name.result c.push.new.self c.in-Ok-insert.ensures.entries c.args.kept.now.entries c.args.s c.in_ok-same.same
    c.as_bytes-name.ensures c.in_ok-same.ensures.taken c.in_ok-same.ensures.others c.in-Ok.ensures.items
