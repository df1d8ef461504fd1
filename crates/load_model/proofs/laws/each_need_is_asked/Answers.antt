use Rattle.load_model.proofs.LoadLists.{need_is_asked, opened_is_asked}
use Rattle.load_model.proofs.laws.each_need_is_asked.Goals as goal

pub returns-clause-needs : goal.returns-clause-needs
returns-clause-needs c read setting world path opens loaded ends p j o g k n h = need_is_asked read setting world path opens loaded ends p j o g k n h

pub returns-clause-opens : goal.returns-clause-opens
returns-clause-opens c read setting world path opens loaded ends p k n g = opened_is_asked read setting world path opens loaded ends p k n g
