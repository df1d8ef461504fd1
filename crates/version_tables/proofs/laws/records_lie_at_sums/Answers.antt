use Rattle.version_tables.proofs.Chaining.{at_sums}
use Rattle.version_tables.proofs.laws.records_lie_at_sums.Goals as goal

pub returns : goal.returns
returns c = at_sums
