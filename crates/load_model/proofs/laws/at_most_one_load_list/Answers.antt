use Rattle.load_model.proofs.LoadLists.{at_most_one}
use Rattle.load_model.proofs.laws.at_most_one_load_list.Goals as goal

pub returns : goal.returns
returns c read setting world path opens xs ys es fs p q = at_most_one read setting world path opens xs ys es fs p q
