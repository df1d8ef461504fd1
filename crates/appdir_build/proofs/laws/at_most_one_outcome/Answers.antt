use Rattle.appdir_build.proofs.LawLemmas.{at_most_one_outcome}
use Rattle.appdir_build.proofs.laws.at_most_one_outcome.Goals as goal

pub returns : goal.returns
returns c = at_most_one_outcome
