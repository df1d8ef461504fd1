use Rattle.std.proofs.Common.{take}
use Rattle.load_order.specs.Reaching.{AreReaches}
use Rattle.load_order.proofs.locals.local_lists.Given as goal

abbrev pub invariant-loop-root : goal.invariant-loop-root
invariant-loop-root l = AreReaches l.targets (take l.root-index l.roots) l.lists
