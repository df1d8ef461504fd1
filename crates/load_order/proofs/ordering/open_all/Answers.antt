use Rattle.load_order.proofs.OrderingRuns.{all_done, all_more, all_stop}
use Rattle.load_order.proofs.OrderingSteps.{grew_on, ready_more}
use Rattle.load_order.proofs.ordering.open_all.Goals as goal

pub returns-in-Err-clause-answer : goal.returns-in-Err-clause-answer
returns-in-Err-clause-answer g c path program loaded ends e0 =
    let e = c.loop-name.invariant.ended path program loaded ends e0 in
    all_stop c.args.setting.now (g.P.Opener.seen c.args.opener.now) (g.P.Opener.seen c.loop-name.opener) (g.P.Opener.seen c.open_one.new.opener) path program c.args.opens.now c.loop-name.name-index c.loop-name.loading c.open_one.new.loading c.loop-name.roots c.name-item.result c.loop-name.invariant.grew c.loop-name-test.true c.name-item.is c.loop-name.invariant.ready.count c.loop-name.invariant.safe.program e.0 e.1 e.2
    c.in-Err.stop (c.in-Err.ensures.answer e.0 e.2.stands)

pub loop-name-preserved : goal.loop-name-preserved
loop-name-preserved g c = record {
  safe = c.in-Ok.ensures.safe;
  ready = ready_more c.args.loading.now c.loop-name.loading c.open_one.new.loading c.loop-name.name-index c.loop-name.roots c.push.new.self c.in-Ok.root c.loop-name.invariant.ready c.in-Ok.ensures.more c.in-Ok.ensures.root c.in-Ok-push.ensures.ok;
  ended = λ path program loaded ends e0.
      let e = c.loop-name.invariant.ended path program loaded ends e0 in
      all_more c.args.setting.now (g.P.Opener.seen c.args.opener.now) (g.P.Opener.seen c.loop-name.opener) (g.P.Opener.seen c.open_one.new.opener) path program c.args.opens.now c.loop-name.name-index c.loop-name.loading c.open_one.new.loading c.loop-name.roots c.name-item.result c.loop-name.invariant.grew c.loop-name-test.true c.name-item.is c.loop-name.invariant.ready.count c.loop-name.invariant.safe.program e.0 e.1 e.2
      c.in-Ok.root c.push.new.self _ c.in-Ok.ensures.more (c.in-Ok.ensures.answer e.0 e.2.stands) c.in-Ok-push.ensures.ok e.3;
  grew = grew_on (g.P.Opener.seen c.args.opener.now) (g.P.Opener.seen c.loop-name.opener) (g.P.Opener.seen c.open_one.new.opener) c.loop-name.invariant.grew c.in-Ok.ensures.grew;
}

pub returns-clause-answer : goal.returns-clause-answer
returns-clause-answer g c path program loaded ends e0 =
    let e = c.loop-name.invariant.ended path program loaded ends e0 in
    (e.0, e.1, all_done c.args.setting.now (g.P.Opener.seen c.args.opener.now).told (g.P.Opener.seen c.loop-name.opener).faces path program c.args.opens.now c.loop-name.name-index c.loop-name.loading c.loop-name.roots e.0 e.1 c.loop-name-test.false e.2, e.3)
