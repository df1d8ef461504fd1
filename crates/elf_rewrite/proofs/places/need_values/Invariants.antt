-- the values so far, and those of the rest, are all
use Rattle.std.proofs.Common.{◌≡◌, ◌++◌, drop}
use Rattle.elf_rewrite.specs.NewTable.{need_values}
use Rattle.elf_rewrite.proofs.places.need_values.Given as goal

abbrev pub invariant-loop-entry : goal.invariant-loop-entry
invariant-loop-entry l = l.values.items ++ need_values (drop l.entry-index l.entries) ≡ need_values l.entries
