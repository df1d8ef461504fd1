use Rattle.moved_runs.proofs.MovedPartLemmas.{same_phase, same_first}
use Rattle.moved_runs.proofs.core_laws.same_phases.Goals as goal

pub returns-clause-phase : goal.returns-clause-phase
returns-clause-phase g c too_many limit here there name_of program opens run ends objs_there p moved j =
    same_phase too_many limit here there name_of program opens run ends objs_there p moved j

pub returns-clause-start : goal.returns-clause-start
returns-clause-start g c too_many limit here there name_of program opens run ends objs_there p moved =
    same_first too_many limit here there name_of program opens run ends objs_there p moved
