use Rattle.search_paths.proofs.DecisionLemmas.{grew_not}
use Rattle.search_paths.proofs.OpeningLemmas.{no_path, no_path_alone}
use Rattle.search_paths.proofs.looking.look_at.Goals as goal

pub returns-in-Err : goal.returns-in-Err
returns-in-Err g c = record {
  answer = no_path (g.P.Opener.seen c.args.opener.now) c.args.text.now c.in-Err.fault c.no_path.result c.in-Err.ensures.answer c.no_path.ensures;
  grew = grew_not (g.P.Opener.seen c.args.opener.now);
  alone = no_path_alone c.in-Err.fault c.no_path.result c.no_path.ensures;
}
