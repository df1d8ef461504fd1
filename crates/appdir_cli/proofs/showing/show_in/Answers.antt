use Rattle.std.proofs.Common.{◌∷◌, [], ◌∙◌, ap, subst, sym, Err}
use Rattle.build_plan.specs.Steps.{IsStepAnswer}
use Rattle.build_plan.specs.declared.stops.BuildStop.{BuildStop}
use Rattle.deliveries.specs.declared.answer.Answer.{Answer}
use Rattle.appdir_cli.proofs.ShowingLemmas.{loading_stops, shown}
use Rattle.appdir_cli.specs.Showing.{ShowsIn}
use Rattle.appdir_cli.proofs.showing.show_in.Goals as goal

pub returns-in-Ok-text_of-clause-answer : goal.returns-in-Ok-text_of-clause-answer
returns-in-Ok-text_of-clause-answer g c =
    shown c.args.setting.now (g.T.Tree.seen c.args.tree.now) (g.T.Tree.seen c.load_all.new.tree) c.args.program.now c.from_ref.result.now c.in-Ok-load_all.loaded c.in-Ok-text_of.text (c.from_ref.ensures.value ∙ ap (λ p. p ∷ []) c.in-Ok.ensures) c.in-Ok-load_all.ensures.answer c.in-Ok-text_of.ensures

pub returns-clause-answer : goal.returns-clause-answer
returns-clause-answer g c =
    subst (λ (stop : BuildStop). IsStepAnswer {A = Answer} (g.T.Tree.seen c.args.tree.now) (g.T.Tree.seen c.load_all.new.tree) (λ world outcome. ShowsIn c.args.setting.now world c.args.program.now outcome) (Err stop)) (sym c.stop_of.ensures)
    (loading_stops c.args.setting.now (g.T.Tree.seen c.args.tree.now) (g.T.Tree.seen c.load_all.new.tree) c.args.program.now c.from_ref.result.now c.in-Err-load_all.stop (c.from_ref.ensures.value ∙ ap (λ p. p ∷ []) c.in-Ok.ensures) c.in-Err-load_all.ensures.answer)
