use Rattle.load_model.proofs.LoadLists.{objects_in_order}
use Rattle.load_model.proofs.laws.objects_are_the_targets.Goals as goal

pub returns : goal.returns
returns c read setting world path opens loaded ends p = objects_in_order read setting world path opens loaded ends p
