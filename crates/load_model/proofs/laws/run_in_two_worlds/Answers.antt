use Rattle.load_model.proofs.TwoWorlds.{same_run}
use Rattle.load_model.proofs.laws.run_in_two_worlds.Goals as goal

pub returns : goal.returns
returns g c too_many limit here there key program program_there run objs_there w goes alike first =
    same_run too_many limit here there key program program_there objs_there run w goes alike first
