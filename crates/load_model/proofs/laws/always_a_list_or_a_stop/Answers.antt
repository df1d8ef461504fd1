use Rattle.load_model.proofs.LoadLists.{one_of}
use Rattle.load_model.proofs.laws.always_a_list_or_a_stop.Goals as goal

pub returns : goal.returns
returns c read setting world path opens = one_of read setting world path opens
