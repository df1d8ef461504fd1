use Rattle.moved_runs.proofs.MovedLemmas.{known_exactly}
use Rattle.moved_runs.proofs.core_laws.known_exactly.Goals as goal

pub returns : goal.returns
returns g c too_many limit here there name_of program opens run objs_there p moved m j n y le below gy =
    known_exactly too_many too_many limit here there name_of program program opens run objs_there p moved m j n y le below gy
