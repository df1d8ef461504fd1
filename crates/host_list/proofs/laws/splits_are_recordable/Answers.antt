use Rattle.host_list.proofs.ClosingLemmas.{closed_split, split_interps}
use Rattle.host_list.proofs.laws.splits_are_recordable.Goals as goal

pub returns-clause-closed : goal.returns-clause-closed
returns-clause-closed c = closed_split

pub returns-clause-interps : goal.returns-clause-interps
returns-clause-interps c = split_interps
