use Rattle.moved_runs.proofs.MovedPartLemmas.{same_loaders}
use Rattle.moved_runs.proofs.core_laws.same_loaders.Goals as goal

pub returns : goal.returns
returns c = same_loaders
