use Rattle.load_model.proofs.LoadLists.{name_has_target, target_is_loaded}
use Rattle.load_model.proofs.laws.a_name_goes_to_one_object.Goals as goal

pub returns-clause-one : goal.returns-clause-one
returns-clause-one c read setting world path opens loaded ends p m a g = name_has_target read setting world path opens loaded ends p m a g

pub returns-clause-loaded : goal.returns-clause-loaded
returns-clause-loaded c read setting world path opens loaded ends p m a g = target_is_loaded read setting world path opens loaded ends p m a g
