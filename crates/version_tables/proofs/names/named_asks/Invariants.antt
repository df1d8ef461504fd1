-- what is done, and what is left
use Rattle.std.proofs.Common.{◌≡◌, ◌++◌, drop, map}
use Rattle.version_tables.specs.VersionLists.{ask_in}
use Rattle.version_tables.proofs.names.named_asks.Given as goal

abbrev pub invariant-loop-asked : goal.invariant-loop-asked
invariant-loop-asked l = l.named ++ map (ask_in l.bytes) (drop l.asked-index l.asks) ≡ map (ask_in l.bytes) l.asks
