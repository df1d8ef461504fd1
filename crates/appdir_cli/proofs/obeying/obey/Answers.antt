use Rattle.std.proofs.Common.{subst, refl, inl, Err}
use Rattle.build_plan.specs.declared.stops.BuildStop.{BuildStop}
use Rattle.appdir_cli.specs.Answering.{IsAnswerTo}
use Rattle.appdir_cli.specs.Endings.{outside}
use Rattle.appdir_cli.proofs.EndingLemmas.{answer_ends, both_read, given_since, probed_since, refused_ends}
use Rattle.appdir_cli.proofs.obeying.obey.Goals as goal

pub give-requires : goal.give-requires
give-requires g c =
    probed_since c.in-Ok.given (g.T.Tree.seen c.args.tree.now) (g.T.Tree.seen c.answer.new.tree) c.in-Ok.ensures.only_reads c.in-Ok.ensures.probed

pub returns-in-Ok-clause-ending : goal.returns-in-Ok-clause-ending
returns-in-Ok-clause-ending g c =
    answer_ends c.args.command.now (outside (g.T.Tree.seen c.args.tree.now) (g.O.OutDir.seen c.args.out.now) (g.S.Sink.seen c.args.sink.now)) (outside (g.T.Tree.seen c.give.new.tree) (g.O.OutDir.seen c.give.new.out) (g.S.Sink.seen c.give.new.sink)) c.in-Ok.given c.in-Ok.ensures.answer c.give.result
    (given_since c.in-Ok.given (g.T.Tree.seen c.args.tree.now) (g.T.Tree.seen c.answer.new.tree) (g.T.Tree.seen c.give.new.tree) (g.O.OutDir.seen c.args.out.now) (g.O.OutDir.seen c.give.new.out) (g.S.Sink.seen c.args.sink.now) (g.S.Sink.seen c.give.new.sink) c.give.result c.in-Ok.ensures.only_reads c.give.ensures.given)

pub returns-in-Ok-clause-only_reads : goal.returns-in-Ok-clause-only_reads
returns-in-Ok-clause-only_reads g c =
    both_read (g.T.Tree.seen c.args.tree.now) (g.T.Tree.seen c.answer.new.tree) (g.T.Tree.seen c.give.new.tree) c.in-Ok.ensures.only_reads c.give.ensures.only_reads

pub returns-in-Err-Refused-clause-ending : goal.returns-in-Err-Refused-clause-ending
returns-in-Err-Refused-clause-ending g c =
    refused_ends c.args.command.now (outside (g.T.Tree.seen c.args.tree.now) (g.O.OutDir.seen c.args.out.now) (g.S.Sink.seen c.args.sink.now)) (outside (g.T.Tree.seen c.answer.new.tree) (g.O.OutDir.seen c.args.out.now) (g.S.Sink.seen c.refuse.new.sink)) c.in-Err-Refused.refusal
    (subst (λ (stop : BuildStop). IsAnswerTo c.args.command.now (g.T.Tree.seen c.args.tree.now) (g.T.Tree.seen c.answer.new.tree) (Err stop)) c.in-Err-Refused.field-0-is c.in-Err-Refused.ensures.answer)
    refl c.refuse.result c.refuse.ensures.said

pub returns-in-Err-Read-clause-ending : goal.returns-in-Err-Read-clause-ending
returns-in-Err-Read-clause-ending g c =
    let read = subst (λ (stop : BuildStop). IsAnswerTo c.args.command.now (g.T.Tree.seen c.args.tree.now) (g.T.Tree.seen c.answer.new.tree) (Err stop)) c.in-Err-Read.field-0-is c.in-Err-Read.ensures.answer in
    (read.0, read.1, inl (record { folder = refl; sink = refl }))
