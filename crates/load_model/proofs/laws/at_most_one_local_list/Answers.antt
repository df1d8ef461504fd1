use Rattle.load_model.proofs.Locals.{one_local}
use Rattle.load_model.proofs.laws.at_most_one_local_list.Goals as goal

pub returns : goal.returns
returns c loaded root ks ls p q = one_local loaded root ks ls p q
