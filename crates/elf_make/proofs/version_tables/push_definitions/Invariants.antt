use Rattle.std.specs.Prelude.{◌≡◌, ◌++◌, length}
use Rattle.elf_make.specs.VersionTables.{definitions_from}
use Rattle.elf_make.proofs.version_tables.push_definitions.Given as goal

abbrev pub invariant-names : goal.invariant-names
invariant-names l = l.out.items ++ definitions_from l.texts l.index l.rest ≡ l.fn.out.items ++ definitions_from l.texts l.first l.names

abbrev pub decreases-names : goal.decreases-names
decreases-names l = length l.rest
