use Rattle.host_meeting.proofs.NamedLemmas.{others_stay}
use Rattle.host_meeting.proofs.named.take.Goals as goal

pub returns-in-Ok-Some-clause-others : goal.returns-in-Ok-Some-clause-others
returns-in-Ok-Some-clause-others c q e = others_stay c.args.kept.now.entries c.insert.new.self.entries c.args.name _ c.in-Ok-Some.ensures.entries q e

pub returns-in-Ok-None-clause-others : goal.returns-in-Ok-None-clause-others
returns-in-Ok-None-clause-others c q e = others_stay c.args.kept.now.entries c.insert.new.self.entries c.args.name _ c.in-Ok-None.ensures.entries q e
