-- the symbols so far are the way to the end so far
use Rattle.std.proofs.Common.{◌≡◌, ◌-◌, ◌≤◌, true, length}
use Rattle.load_model.specs.SysvTable.{is_link}
use Rattle.hash_chains.specs.Depths.{IsWay}
use Rattle.hash_chains.proofs.chains.Chains.way.Given as goal

abbrev pub invariant-walk : goal.invariant-walk
invariant-walk l = record {
  way : IsWay l.self.next.items l.first l.symbols.items l.end;
  link : is_link (length l.self.next.items) l.end ≡ true;
  few : length l.symbols.items ≤ length l.self.next.items;
}

abbrev pub decreases-walk : goal.decreases-walk
decreases-walk l = length l.self.next.items - length l.symbols.items
