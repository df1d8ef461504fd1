use Rattle.std.proofs.Common.{◌∙◌}
use Rattle.appdir_build.proofs.AssembledLemmas.{unwritten_outcome}
use Rattle.appdir_build.proofs.PreparedLemmas.{objects_there}
use Rattle.appdir_build.proofs.StepLemmas.{reads_nothing, step_later, stop_later}
use Rattle.appdir_build.specs.Outcome.{SourceMeets}
use Rattle.appdir_build.specs.Writing.{AreObjectsIn, AreWritten, Builds, IsWritingOf}
use Rattle.build_plan.specs.Building.{IsBuilding}
use Rattle.build_plan.specs.Deciding.{building_of}
use Rattle.appdir_build.proofs.building.built_by.Goals as goal

pub returns-in-Ok-clause-answer : goal.returns-in-Ok-clause-answer
returns-in-Ok-clause-answer g c =
    let before = g.T.Tree.seen c.args.tree.now in
    let config = c.args.config.now in
    let b = building_of c.args.plan in
    step_later before (g.T.Tree.seen c.written_objects.new.tree) (g.T.Tree.seen c.furnished.new.tree)
    (λ world outcome. IsBuilding world config b → SourceMeets world config b → AreWritten world config c.args.plan c.in-Ok.written → Builds world config outcome)
    (λ world outcome. IsBuilding world config b → SourceMeets world config b → Builds world config outcome)
    c.furnished.result c.in-Ok.ensures.only_reads
    (λ world outcome told h builds meets. h builds meets (c.in-Ok.ensures.answer world told (objects_there world config c.args.plan builds)))
    c.furnished.ensures.answer

pub returns-in-Err-clause-answer : goal.returns-in-Err-clause-answer
returns-in-Err-clause-answer g c =
    let before = g.T.Tree.seen c.args.tree.now in
    let config = c.args.config.now in
    let b = building_of c.args.plan in
    stop_later before before (g.T.Tree.seen c.written_objects.new.tree)
    (λ world outcome. AreObjectsIn world c.args.plan → IsWritingOf world config c.args.plan outcome)
    (λ world outcome. IsBuilding world config b → SourceMeets world config b → Builds world config outcome)
    c.in-Err.stop (reads_nothing before)
    (λ world refusal told h builds meets. unwritten_outcome world config b refusal builds meets (h (objects_there world config c.args.plan builds)))
    c.in-Err.ensures.answer
