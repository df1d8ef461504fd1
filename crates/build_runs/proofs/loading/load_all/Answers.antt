use Rattle.std.proofs.Common.{◌∙◌, sym, subst, Err}
use Rattle.build_runs.proofs.AnswerLemmas.{over_in_order, runs_in_order, safe_in_order}
use Rattle.build_runs.proofs.StopLemmas.{stop_answers}
use Rattle.build_runs.specs.Answering.{IsLoadsAnswer}
use Rattle.build_runs.specs.declared.stops.LoadsStop.{LoadsStop}
use Rattle.build_runs.proofs.loading.load_all.Goals as goal

pub returns-in-Ok-put_in_order-clause-answer : goal.returns-in-Ok-put_in_order-clause-answer
returns-in-Ok-put_in_order-clause-answer g c world told =
    runs_in_order c.load_over.new.opener.faces c.in-Ok-put_in_order.loaded.table.faces c.args.programs.now c.in-Ok-load_over.runs.items c.in-Ok-put_in_order.loaded.runs c.in-Ok-put_in_order.ensures.order c.args.setting.now world (c.in-Ok-load_over.ensures.runs world told)

pub returns-in-Ok-put_in_order-clause-safe : goal.returns-in-Ok-put_in_order-clause-safe
returns-in-Ok-put_in_order-clause-safe g c =
    safe_in_order c.load_over.new.opener.faces c.in-Ok-put_in_order.loaded.table.faces c.args.programs.now c.in-Ok-load_over.runs.items c.in-Ok-put_in_order.loaded.runs c.in-Ok-put_in_order.ensures.order c.args.setting.now.machine c.in-Ok-put_in_order.loaded.table.machine
    (c.in-Ok-put_in_order.ensures.machine ∙ (c.load_over.ensures.machine ∙ c.in-Ok.ensures.machine)) c.in-Ok-load_over.ensures.safe c.in-Ok-put_in_order.ensures.known c.in-Ok-put_in_order.ensures.few

pub returns-in-Ok-put_in_order-clause-over : goal.returns-in-Ok-put_in_order-clause-over
returns-in-Ok-put_in_order-clause-over g c =
    over_in_order c.load_over.new.opener.faces c.in-Ok-put_in_order.loaded.table.faces c.args.programs.now c.in-Ok-load_over.runs.items c.in-Ok-put_in_order.loaded.runs c.in-Ok-put_in_order.ensures.order c.in-Ok-load_over.ensures.safe

pub returns-in-Err-clause-answer : goal.returns-in-Err-clause-answer
returns-in-Err-clause-answer g c =
    subst (λ (stop : LoadsStop). IsLoadsAnswer c.args.setting.now (g.T.Tree.seen c.args.tree.now) (g.T.Tree.seen c.load_over.new.tree) c.args.programs.now (Err stop)) (sym c.stop_of_replay.ensures)
    (stop_answers c.args.setting.now (g.T.Tree.seen c.args.tree.now) (g.T.Tree.seen c.load_over.new.tree) c.args.programs.now c.in-Err.stop c.in-Err.ensures.stop)
