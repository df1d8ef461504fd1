use Rattle.build_runs.proofs.LawLemmas.{at_most_one_build}
use Rattle.build_runs.proofs.laws.at_most_one_build.Goals as goal

pub returns : goal.returns
returns c setting world programs faces others runs other_runs a b = at_most_one_build setting world programs faces others runs other_runs a b
