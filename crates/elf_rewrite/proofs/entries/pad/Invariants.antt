-- what is left to add makes the whole
use Rattle.std.proofs.Common.{◌≡◌, ◌-◌, vec_len}
use Rattle.elf_rewrite.specs.Rewriting.{padded_entries}
use Rattle.elf_rewrite.proofs.entries.pad.Given as goal

abbrev pub invariant-loop-out : goal.invariant-loop-out
invariant-loop-out l = padded_entries l.capacity l.out.items ≡ padded_entries l.capacity l.fn.out.items

abbrev pub decreases-loop-out : goal.decreases-loop-out
decreases-loop-out l = l.capacity - vec_len l.out
