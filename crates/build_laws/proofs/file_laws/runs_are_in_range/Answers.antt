use Rattle.build_laws.proofs.OverLemmas.{runs_over}
use Rattle.build_laws.proofs.file_laws.runs_are_in_range.Goals as goal

pub returns : goal.returns
returns c setting world programs faces runs are = runs_over setting world faces programs runs are.each
