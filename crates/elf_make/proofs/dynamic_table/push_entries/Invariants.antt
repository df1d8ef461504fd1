use Rattle.std.specs.Prelude.{◌≡◌, ◌++◌, drop}
use Rattle.byte_view.specs.Dynamic.{entries_bytes}
use Rattle.elf_make.proofs.dynamic_table.push_entries.Given as goal

abbrev pub invariant-loop-entry : goal.invariant-loop-entry
invariant-loop-entry l = l.out.items ++ entries_bytes (drop l.entry-index l.entries) ≡ l.fn.out.items ++ entries_bytes l.entries
