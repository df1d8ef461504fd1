use Rattle.std.proofs.Common.{◌≤◌, ap, arith, length, refl, sym, ◌∙◌}
use Rattle.load_order.proofs.WalkingAsks.{if_done}
use Rattle.load_order.proofs.WalkingSteps.{are_needs, walks_all, walks_more, walks_none, walks_stop}
use Rattle.load_order.proofs.phases.walk.Goals as goal

pub walk-init : goal.walk-init
walk-init g c = walks_none c.args.setting.now (g.P.Opener.seen c.args.opener.now) c.args.loading.now c.requires.safe

pub returns-in-Err-clause-answer : goal.returns-in-Err-clause-answer
returns-in-Err-clause-answer g c =
    walks_stop c.args.setting.now (g.P.Opener.seen c.args.opener.now) (g.P.Opener.seen c.walk.opener) (g.P.Opener.seen c.ask_all.new.opener) c.args.loading.now c.walk.loading c.ask_all.new.loading c.ask_all.new.loading c.as_slice-in-walk.result.now c.requires.safe.program c.walk.invariant
    (are_needs _ _ _ c.in-Ok.needs c.as_slice-in-walk.result.now (cc) c.in-Ok.ensures.needs)
    c.in-Err.stop c.in-Err.ensures.answer

pub walk-preserved : goal.walk-preserved
walk-preserved g c =
    walks_more c.args.setting.now (g.P.Opener.seen c.args.opener.now) (g.P.Opener.seen c.walk.opener) (g.P.Opener.seen c.ask_all.new.opener) c.args.loading.now c.walk.loading c.ask_all.new.loading _ c.as_slice-in-walk.result.now c.requires.safe.program c.walk.invariant
    (are_needs _ _ _ c.in-Ok.needs c.as_slice-in-walk.result.now (cc) c.in-Ok.ensures.needs)
    c.in-Ok-ask_all.targets c.in-Ok-ask_all.ensures.safe c.in-Ok-ask_all.ensures.asking c.in-Ok-ask_all.ensures.count c.in-Ok-ask_all.ensures.below c.in-Ok-ask_all.ensures.answer c.in-Ok-ask_all.ensures.grew
    (record { objs = refl; known = refl; ids = refl; phase = refl; targets = if_done c.push.result _ c.push.ensures.ok (sym c.is_err.ensures.value ∙ c.if-is_err.false) })

pub returns-clause-answer : goal.returns-clause-answer
returns-clause-answer g c =
    let over : length c.walk.loading.objs ≤ length c.walk.loading.targets = omega (arith, c.walk-test.false, ap length c.as_slice.ensures, c.count.ensures) in
    walks_all c.args.setting.now (g.P.Opener.seen c.args.opener.now) (g.P.Opener.seen c.walk.opener) c.args.loading.now c.walk.loading c.walk.invariant over
