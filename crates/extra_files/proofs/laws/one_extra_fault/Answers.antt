use Rattle.extra_files.proofs.LawLemmas.{one_extra_fault}
use Rattle.extra_files.proofs.laws.one_extra_fault.Goals as goal

pub returns : goal.returns
returns c world config a b p q = one_extra_fault world config a b p q
