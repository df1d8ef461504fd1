use Rattle.load_model.proofs.LoadLists.{loader_is_small}
use Rattle.load_model.proofs.laws.loaders_come_before.Goals as goal

pub returns : goal.returns
returns c read setting world path opens loaded ends p j some below = loader_is_small read setting world path opens loaded ends p j some below
