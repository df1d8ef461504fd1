use Rattle.std.specs.Prelude.{◌≡◌, ◌++◌, length}
use Rattle.elf_make.specs.VersionTables.{need_records_from}
use Rattle.elf_make.proofs.version_tables.push_needs.Given as goal

abbrev pub invariant-files : goal.invariant-files
invariant-files l = l.out.items ++ need_records_from l.texts l.needed l.index l.rest ≡ l.fn.out.items ++ need_records_from l.texts l.needed l.first l.files

abbrev pub decreases-files : goal.decreases-files
decreases-files l = length l.rest
