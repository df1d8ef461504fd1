use Rattle.moved_runs.proofs.MovedPartLemmas.{same_targets, same_roots, same_local}
use Rattle.moved_runs.proofs.core_laws.same_local_lists.Goals as goal

pub returns-clause-targets : goal.returns-clause-targets
returns-clause-targets g c too_many limit here there name_of program opens run objs_there p moved k =
    same_targets too_many limit here there name_of program opens run objs_there p moved k

pub returns-clause-roots : goal.returns-clause-roots
returns-clause-roots g c too_many limit here there name_of program opens run objs_there p moved =
    same_roots too_many limit here there name_of program opens run objs_there p moved

pub returns-clause-locals : goal.returns-clause-locals
returns-clause-locals g c too_many limit here there name_of program opens run objs_there p moved root ks h =
    same_local too_many limit here there name_of program opens run objs_there p moved root ks h
