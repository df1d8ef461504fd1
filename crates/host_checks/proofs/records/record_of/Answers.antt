use Rattle.host_checks.proofs.WholeLemmas.{says_whole}
use Rattle.host_checks.proofs.records.record_of.Goals as goal

pub returns-in-Ok-clause-whole : goal.returns-in-Ok-clause-whole
returns-in-Ok-clause-whole c = says_whole c.args.text.now c.in-Ok.rec c.in-Ok.ensures.answer
