use Rattle.source_hosts.proofs.TryingLemmas.{verdict_tried}
use Rattle.source_hosts.proofs.trying.tried_by.Goals as goal

pub returns-clause-answer : goal.returns-clause-answer
returns-clause-answer g c =
    verdict_tried c.args.setting.now (g.P.Opener.seen c.args.opener.now) (g.P.Opener.seen c.host_meets.new.opener) c.as_slice.result.now c.args.rec.now c.host_meets.result c.requires.machine c.as_slice.ensures c.host_meets.ensures.answer
