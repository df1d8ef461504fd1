use Rattle.host_checks.proofs.OneLemmas.{one_check}
use Rattle.host_checks.proofs.laws.one_host_check.Goals as goal

pub returns : goal.returns
returns c = one_check c.one_reading.ensures.says c.one_reading.ensures.refuses c.one_reading.ensures.either
