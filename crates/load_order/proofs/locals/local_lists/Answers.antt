use Rattle.load_order.proofs.ReachingLemmas.{one_more}
use Rattle.load_order.proofs.locals.local_lists.Goals as goal

pub loop-root-preserved : goal.loop-root-preserved
loop-root-preserved c = one_more c.args.targets.now c.args.roots.now c.loop-root.lists c.loop-root.root-index c.push.new.self c.in_ok-local_list.field-0 c.loop-root-test.true c.loop-root.invariant c.in_ok-local_list.ensures.reach c.in_ok-local_list.ensures.below c.in_ok-push.ensures.ok
