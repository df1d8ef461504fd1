use Rattle.std.proofs.Common.{◌≡◌, take, length}
use Rattle.load_order.proofs.WalkingAsks.{AsksAll}
use Rattle.load_order.proofs.phases.ask_all.Given as goal

-- the first needs are asked for
abbrev pub invariant-loop-name : goal.invariant-loop-name
invariant-loop-name g l = record {
  asked : AsksAll l.setting (g.P.Opener.seen l.fn.opener) (g.P.Opener.seen l.opener) l.fn.loading l.loading l.by (take l.name-index l.needs) l.targets;
  by_is : l.by ≡ length l.fn.loading.targets;
}
