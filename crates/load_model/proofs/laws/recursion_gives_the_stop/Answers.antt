use Rattle.std.proofs.Common.{inr}
use Rattle.load_model.proofs.LoadLists.{is_stop, ends_stop_too}
use Rattle.load_model.proofs.laws.recursion_gives_the_stop.Goals as goal

pub returns-clause-run : goal.returns-clause-run
returns-clause-run c read setting world path opens program stop starts h = inr (program, starts, is_stop read setting world path program opens stop h)

pub returns-clause-ends : goal.returns-clause-ends
returns-clause-ends c read setting world path opens program stop h = ends_stop_too read setting world path program opens stop h
