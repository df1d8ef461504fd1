use Rattle.std.proofs.Common.{sym, subst, Err}
use Rattle.appdir_build.proofs.AssembledLemmas.{extra_outcome, listing_stops}
use Rattle.appdir_build.proofs.StepLemmas.{reads_nothing, stop_later}
use Rattle.appdir_build.specs.Outcome.{SourceMeets}
use Rattle.appdir_build.specs.Writing.{AreWritten, Builds}
use Rattle.appdir_build.specs.declared.built.Built.{Built}
use Rattle.build_plan.specs.Building.{IsBuilding}
use Rattle.build_plan.specs.Deciding.{building_of}
use Rattle.build_plan.specs.Steps.{IsStepAnswer}
use Rattle.build_plan.specs.declared.stops.BuildStop.{BuildStop}
use Rattle.extra_files.specs.Extras.{AreExtras}
use Rattle.load_model.specs.World.{World}
use Rattle.appdir_build.proofs.building.furnished.Goals as goal

pub returns-in-Ok-assembled-clause-answer : goal.returns-in-Ok-assembled-clause-answer
returns-in-Ok-assembled-clause-answer g c world told builds meets written =
    c.in-Ok-assembled.ensures.answer world builds meets written (c.in-Ok.ensures.answer world told)

pub returns-in-Ok-assembled-clause-probed : goal.returns-in-Ok-assembled-clause-probed
returns-in-Ok-assembled-clause-probed g c programs libs = c.in-Ok-assembled.ensures.probed (g.T.Tree.seen c.args.tree.now).told programs libs c.in-Ok.ensures.probed

pub returns-in-Err-assembled-clause-answer : goal.returns-in-Err-assembled-clause-answer
returns-in-Err-assembled-clause-answer g c =
    let before = g.T.Tree.seen c.args.tree.now in
    let after = g.T.Tree.seen c.extra_items.new.tree in
    let config = c.args.config.now in
    let b = building_of c.args.plan in
    subst (λ (stop : BuildStop). IsStepAnswer {A = Built} before after (λ world outcome. IsBuilding world config b → SourceMeets world config b → AreWritten world config c.args.plan c.args.written → Builds world config outcome) (Err stop)) (sym c.stop_of_listing.ensures)
    (listing_stops before after config b c.args.plan c.args.written c.in-Err-assembled.stop
    (λ world told builds meets written. c.in-Err-assembled.ensures.answer world builds meets written (c.in-Ok.ensures.answer world told)))

pub returns-in-Err-clause-answer : goal.returns-in-Err-clause-answer
returns-in-Err-clause-answer g c =
    let before = g.T.Tree.seen c.args.tree.now in
    let config = c.args.config.now in
    let b = building_of c.args.plan in
    stop_later before before (g.T.Tree.seen c.extra_items.new.tree)
    (λ world outcome. AreExtras world config outcome)
    (λ world outcome. IsBuilding world config b → SourceMeets world config b → AreWritten world config c.args.plan c.args.written → Builds world config outcome)
    c.in-Err.stop (reads_nothing before)
    (λ world refusal told h builds meets written. extra_outcome world config b refusal builds meets written.all h)
    c.in-Err.ensures.answer
