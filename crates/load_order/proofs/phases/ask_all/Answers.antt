use Rattle.std.proofs.Common.{refl, sym, ◌∙◌}
use Rattle.load_order.proofs.WalkingAsks.{asks_more_at, asks_start, asks_stop_at, if_done}
use Rattle.load_order.proofs.phases.ask_all.Goals as goal

pub loop-name-init : goal.loop-name-init
loop-name-init g c = record { asked = asks_start _ _ _ _ _ _ refl (cc) c.requires.safe; by_is = (cc) }

pub returns-in-Err-clause-answer : goal.returns-in-Err-clause-answer
returns-in-Err-clause-answer g c =
    asks_stop_at c.args.setting.now (g.P.Opener.seen c.args.opener.now) (g.P.Opener.seen c.loop-name.opener) (g.P.Opener.seen c.ask.new.opener) c.args.loading.now c.loop-name.loading c.ask.new.loading _ c.args.needs.now c.loop-name.name-index c.name-item.result c.loop-name.targets
    c.requires.safe.program c.loop-name-test.true c.name-item.is c.loop-name.invariant.asked _ c.in-Err.stop c.loop-name.invariant.by_is c.in-Err.ensures.answer

pub loop-name-preserved : goal.loop-name-preserved
loop-name-preserved g c = record {
  asked = asks_more_at c.args.setting.now (g.P.Opener.seen c.args.opener.now) (g.P.Opener.seen c.loop-name.opener) (g.P.Opener.seen c.ask.new.opener) c.args.loading.now c.loop-name.loading c.ask.new.loading _ c.args.needs.now c.loop-name.name-index c.name-item.result c.loop-name.targets
      c.requires.safe.program c.loop-name-test.true c.name-item.is c.loop-name.invariant.asked
      c.in-Ok.target c.push.new.self (if_done c.push.result _ c.push.ensures.ok (sym c.is_err.ensures.value ∙ c.if-is_err.false)) c.in-Ok.ensures.safe c.in-Ok.ensures.asking c.in-Ok.ensures.target c.in-Ok.ensures.answer c.in-Ok.ensures.grew;
  by_is = c.loop-name.invariant.by_is;
}
