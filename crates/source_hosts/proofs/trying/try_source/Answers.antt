use Rattle.std.proofs.Common.{sym, subst, Result}
use Rattle.build_plan.specs.Deciding.{building_of}
use Rattle.build_plan.specs.Steps.{IsStepAnswer}
use Rattle.build_plan.specs.declared.stops.BuildStop.{BuildStop}
use Rattle.source_hosts.specs.Trying.{TriesSource}
use Rattle.source_hosts.proofs.TryingLemmas.{for_machine, is_whole, source_tried}
use Rattle.source_hosts.proofs.trying.try_source.Goals as goal

pub tried-requires-clause-machine : goal.tried-requires-clause-machine
tried-requires-clause-machine g c =
    for_machine c.args.config.now c.args.plan.now c.requires.safe c.args.rec.now c.requires.demands

pub tried-requires-clause-whole : goal.tried-requires-clause-whole
tried-requires-clause-whole g c =
    is_whole c.args.config.now c.args.plan.now c.requires.safe c.args.rec.now c.requires.demands

pub returns-clause-answer : goal.returns-clause-answer
returns-clause-answer g c =
    let b = building_of c.args.plan.now in
    subst (λ (result : Result Unit BuildStop). IsStepAnswer (g.T.Tree.seen c.args.tree.now) (g.T.Tree.seen c.tried.new.tree) (λ world outcome. TriesSource world c.args.config.now b outcome) result) (sym c.stop_of_verdict.ensures)
    (source_tried c.args.config.now b (g.T.Tree.seen c.args.tree.now) (g.T.Tree.seen c.tried.new.tree) c.args.rec.now c.tried.result c.requires.demands c.tried.ensures.answer)
