use Rattle.load_model.proofs.SameNamesLemmas.{loads_alike}
use Rattle.load_model.proofs.search_laws.same_names_load_alike.Goals as goal

pub returns : goal.returns
returns c = loads_alike
