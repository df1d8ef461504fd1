use Rattle.std.proofs.Common.{subst, sym, ◌∙◌, ap}
use Rattle.load_model.specs.Candidates.{candidate_in}
use Rattle.load_model.specs.RunPaths.{Folder}
use Rattle.search_paths.specs.HeldItems.{item_held}
use Rattle.search_paths.specs.Searching.{Decides, IsAnswer}
use Rattle.search_paths.proofs.DecisionLemmas.{grew_not}
use Rattle.search_paths.proofs.OpeningLemmas.{refused_item}
use Rattle.search_paths.proofs.looking.look_in_item.Goals as goal

pub returns-in-Ok-clause-answer : goal.returns-in-Ok-clause-answer
returns-in-Ok-clause-answer g c = subst (λ i. IsAnswer (Decides (g.P.Opener.seen c.args.opener.now) (candidate_in c.args.name.now i)) (g.P.Opener.seen c.args.opener.now) (g.P.Opener.seen c.look_in.new.opener) c.look_in.result) (ap (λ t. Folder t) c.as_slice.ensures.value ∙ sym c.in-Ok.ensures) c.look_in.ensures.answer

pub returns-in-Err-clause-answer : goal.returns-in-Err-clause-answer
returns-in-Err-clause-answer g c = refused_item (g.P.Opener.seen c.args.opener.now) c.args.name.now (item_held c.args.setting.now c.args.item.now) c.in-Err.stop c.in-Err.ensures

pub returns-in-Err-clause-grew : goal.returns-in-Err-clause-grew
returns-in-Err-clause-grew g c = grew_not (g.P.Opener.seen c.args.opener.now)
