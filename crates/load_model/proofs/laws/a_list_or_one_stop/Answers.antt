use Rattle.load_model.proofs.LoadLists.{list_or_stop, at_most_one_stop}
use Rattle.load_model.proofs.laws.a_list_or_one_stop.Goals as goal

pub returns-clause-list : goal.returns-clause-list
returns-clause-list c read setting world path opens loaded ends stop p q = list_or_stop read setting world path opens loaded ends stop p q

pub returns-clause-stops : goal.returns-clause-stops
returns-clause-stops c read setting world path opens s t p q = at_most_one_stop read setting world path opens s t p q
