use Rattle.version_tables.proofs.Chaining.{are_chained, only_chained}
use Rattle.version_tables.proofs.laws.records_follow_one_another.Goals as goal

pub returns-clause-chained : goal.returns-clause-chained
returns-clause-chained c = are_chained

pub returns-clause-only : goal.returns-clause-only
returns-clause-only c = only_chained
