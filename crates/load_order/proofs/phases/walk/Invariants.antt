use Rattle.std.proofs.Common.{◌-◌, length}
use Rattle.load_model.specs.declared.limits.TheConstants.{MOST_OBJECTS}
use Rattle.load_order.proofs.WalkingSteps.{WalksTo}
use Rattle.load_order.proofs.phases.walk.Given as goal

-- the first objects are walked
abbrev pub invariant-walk : goal.invariant-walk
invariant-walk g l = WalksTo l.setting (g.P.Opener.seen l.fn.opener) (g.P.Opener.seen l.opener) l.fn.loading l.loading

abbrev pub decreases-walk : goal.decreases-walk
decreases-walk g l = MOST_OBJECTS - length l.loading.targets
