use Rattle.lib_closure.proofs.SplitLemmas.{distinct_ids, members_stand}
use Rattle.lib_closure.proofs.laws.splits_have_parts.Goals as goal

pub returns-clause-ids : goal.returns-clause-ids
returns-clause-ids c = distinct_ids

pub returns-clause-members : goal.returns-clause-members
returns-clause-members c = members_stand
