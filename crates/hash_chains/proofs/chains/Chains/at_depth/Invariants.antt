-- the symbol so far is known, is reached, and is as deep as is wanted, if the first is
use Rattle.std.proofs.Common.{◌≤◌}
use Rattle.std.specs.Prelude.{slice_index}
use Rattle.hash_chains.specs.Depths.{Knows, Reaches}
use Rattle.hash_chains.proofs.chains.Chains.at_depth.Given as goal

abbrev pub invariant-descend : goal.invariant-descend
invariant-descend l = record {
  known : Knows l.self l.at;
  reached : Reaches l.self.next.items l.first l.at;
  enough : l.depth ≤ slice_index l.self.depths.items l.first → l.depth ≤ slice_index l.self.depths.items l.at;
}

abbrev pub decreases-descend : goal.decreases-descend
decreases-descend l = slice_index l.self.depths.items l.at
