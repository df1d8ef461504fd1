use Rattle.std.proofs.Common.{◌≡◌, ◌<◌, ◌≤◌, ◌-◌, ◌^◌, ℕ, length, take}
use Rattle.load_model.specs.Runs.{AreBelow}
use Rattle.load_order.specs.Reaching.{reached_in}
use Rattle.load_order.proofs.locals.local_list.Given as goal

abbrev pub invariant-reach : goal.invariant-reach
invariant-reach l = record {
  within : l.at ≤ length l.list;
  order : l.list ≡ reached_in l.targets l.root (take l.at l.list);
  brought : (i : ℕ) → i < l.at → i < length (reached_in l.targets l.root (take i l.list));
  below : AreBelow (length l.targets) l.list;
}

abbrev pub decreases-reach : goal.decreases-reach
decreases-reach l = 2 ^ 64 - l.at
