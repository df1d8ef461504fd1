-- the bytes so far, and those of the rest, are all
use Rattle.std.proofs.Common.{◌≡◌, ◌++◌, drop}
use Rattle.byte_view.specs.Dynamic.{entries_bytes}
use Rattle.elf_rewrite.proofs.words.entries_bytes.Given as goal

abbrev pub invariant-loop-entry : goal.invariant-loop-entry
invariant-loop-entry l = l.bytes.items ++ entries_bytes (drop l.entry-index l.entries) ≡ entries_bytes l.entries
