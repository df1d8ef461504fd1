use Rattle.appdir_build.proofs.AssembledLemmas.{undecided_outcome}
use Rattle.appdir_build.proofs.StepLemmas.{reads_nothing, stop_later}
use Rattle.appdir_build.specs.Writing.{Builds}
use Rattle.build_plan.specs.Deciding.{Decides}
use Rattle.appdir_build.proofs.building.build.Goals as goal

pub returns-in-Err-clause-answer : goal.returns-in-Err-clause-answer
returns-in-Err-clause-answer g c =
    let before = g.T.Tree.seen c.args.tree.now in
    stop_later before before (g.T.Tree.seen c.decide.new.tree)
    (λ world outcome. Decides world c.args.config.now outcome)
    (λ world outcome. Builds world c.args.config.now outcome)
    c.in-Err.stop (reads_nothing before)
    (λ world refusal told h. undecided_outcome world c.args.config.now refusal h)
    c.in-Err.ensures.answer
