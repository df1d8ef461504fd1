use Rattle.std.proofs.Common.{◌∙◌}
use Rattle.appdir_build.proofs.AssembledLemmas.{no_host_outcome}
use Rattle.appdir_build.proofs.StepLemmas.{reads_nothing, step_later, stop_later}
use Rattle.appdir_build.specs.Outcome.{SourceMeets}
use Rattle.appdir_build.specs.Writing.{Builds}
use Rattle.build_plan.specs.Building.{IsBuilding}
use Rattle.build_plan.specs.Deciding.{building_of}
use Rattle.source_hosts.specs.Trying.{TriesSource}
use Rattle.appdir_build.proofs.building.tried.Goals as goal

pub returns-in-Ok-write_record-clause-answer : goal.returns-in-Ok-write_record-clause-answer
returns-in-Ok-write_record-clause-answer g c =
    let before = g.T.Tree.seen c.args.tree.now in
    let config = c.args.config.now in
    let b = building_of c.args.plan in
    step_later before (g.T.Tree.seen c.try_source.new.tree) (g.T.Tree.seen c.built_by.new.tree)
    (λ world outcome. IsBuilding world config b → SourceMeets world config b → Builds world config outcome)
    (λ world outcome. IsBuilding world config b → Builds world config outcome)
    c.built_by.result c.in-Ok-try_source.ensures.only_reads
    (λ world outcome told h builds. h builds (c.in-Ok-try_source.ensures.answer world told))
    c.built_by.ensures.answer

pub returns-in-Err-clause-answer : goal.returns-in-Err-clause-answer
returns-in-Err-clause-answer g c =
    let before = g.T.Tree.seen c.args.tree.now in
    let config = c.args.config.now in
    let b = building_of c.args.plan in
    stop_later before before (g.T.Tree.seen c.try_source.new.tree)
    (λ world outcome. TriesSource world config b outcome)
    (λ world outcome. IsBuilding world config b → Builds world config outcome)
    c.in-Err.stop (reads_nothing before)
    (λ world refusal told h builds. no_host_outcome world config b refusal builds h)
    c.in-Err.ensures.answer
