use Rattle.std.proofs.Common.{sym, ◌∙◌}
use Rattle.deliveries.proofs.DeliveryLemmas.{opened_full, opened_whole, stopped_short}
use Rattle.deliveries.proofs.delivering.write_whole.Goals as goal

pub returns-in-Ok-NotEmpty-clause-written : goal.returns-in-Ok-NotEmpty-clause-written
returns-in-Ok-NotEmpty-clause-written g c =
    opened_full c.args.whole.now (g.O.OutDir.seen c.args.out.now) (g.O.OutDir.seen c.root.new.self) c.in-Ok-NotEmpty.ensures.opened (λ folder told. sym c.in-Ok-NotEmpty.field-0-is ∙ c.in-Ok-NotEmpty.ensures.state folder told)

pub returns-in-Ok-clause-written : goal.returns-in-Ok-clause-written
returns-in-Ok-clause-written g c =
    opened_whole c.args.whole.now (g.O.OutDir.seen c.args.out.now) (g.O.OutDir.seen c.root.new.self) c.in-Ok-Empty.ensures.opened (λ folder told. sym c.in-Ok-Empty.field-0-is ∙ c.in-Ok-Empty.ensures.state folder told) (g.O.OutDir.seen c.write_all.new.out) c.as_slice.result.now c.as_slice.ensures (g.T.Tree.seen c.args.tree.now).told c.in-Ok.ensures.all

pub returns-in-Err-write_all-clause-stopped : goal.returns-in-Err-write_all-clause-stopped
returns-in-Err-write_all-clause-stopped g c =
    stopped_short c.args.whole.now (g.O.OutDir.seen c.args.out.now) (g.O.OutDir.seen c.root.new.self) c.in-Ok-Empty.ensures.opened (λ folder told. sym c.in-Ok-Empty.field-0-is ∙ c.in-Ok-Empty.ensures.state folder told) (g.O.OutDir.seen c.write_all.new.out) c.as_slice.result.now c.as_slice.ensures (g.T.Tree.seen c.args.tree.now) (g.T.Tree.seen c.write_all.new.tree) c.in-Err-write_all.stop c.in-Ok-Empty.ensures.cause.never_falls c.in-Err-write_all.ensures.part c.in-Err-write_all.ensures.cause
