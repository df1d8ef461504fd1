use Rattle.moved_runs.proofs.MovedLemmas.{moved_run}
use Rattle.moved_runs.proofs.core_laws.moved_run.Goals as goal

pub returns : goal.returns
returns g c too_many too_many_there limit here there name_of program program_there opens run ends objs_there p moved first =
    moved_run too_many too_many_there limit here there name_of program program_there opens run objs_there ends p moved first
