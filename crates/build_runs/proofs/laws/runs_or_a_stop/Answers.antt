use Rattle.build_runs.proofs.LawLemmas.{runs_or_stop}
use Rattle.build_runs.proofs.laws.runs_or_a_stop.Goals as goal

pub returns : goal.returns
returns c setting world programs faces runs refusal a stop = runs_or_stop setting world programs faces runs refusal a stop
