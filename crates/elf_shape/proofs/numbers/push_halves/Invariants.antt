use Rattle.std.specs.Prelude.{◌≡◌, ◌++◌, drop}
use Rattle.elf_shape.specs.Bytes.{halves}
use Rattle.elf_shape.proofs.numbers.push_halves.Given as goal

abbrev pub invariant-loop-number : goal.invariant-loop-number
invariant-loop-number l = l.out.items ++ halves (drop l.number-index l.numbers) ≡ l.fn.out.items ++ halves l.numbers
