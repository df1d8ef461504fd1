use Rattle.moved_runs.proofs.MovedPartLemmas.{same_name}
use Rattle.moved_runs.proofs.core_laws.named_target.Goals as goal

pub returns : goal.returns
returns g c too_many limit here there name_of program opens run objs_there p moved m a h =
    same_name too_many limit here there name_of program opens run objs_there p moved m a h
