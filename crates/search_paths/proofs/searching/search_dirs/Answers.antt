use Rattle.search_paths.proofs.DecisionLemmas.{listed_answer}
use Rattle.search_paths.proofs.searching.search_dirs.Goals as goal

pub returns-clause-answer : goal.returns-clause-answer
returns-clause-answer g c = listed_answer (g.P.Opener.seen c.args.opener.now) (g.P.Opener.seen c.look_in_folders.new.opener) c.args.dirs.now c.args.name.now c.look_in_folders.result c.look_in_folders.ensures.answer
