use Rattle.std.specs.Prelude.{◌≡◌, ◌++◌, length}
use Rattle.elf_make.specs.VersionTables.{asks_from}
use Rattle.elf_make.proofs.version_tables.push_asks.Given as goal

abbrev pub invariant-asks : goal.invariant-asks
invariant-asks l = l.out.items ++ asks_from l.texts l.index l.rest ≡ l.fn.out.items ++ asks_from l.texts l.first l.asks

abbrev pub decreases-asks : goal.decreases-asks
decreases-asks l = length l.rest
