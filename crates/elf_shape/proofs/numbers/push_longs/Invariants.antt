use Rattle.std.specs.Prelude.{◌≡◌, ◌++◌, drop}
use Rattle.elf_shape.specs.Bytes.{longs}
use Rattle.elf_shape.proofs.numbers.push_longs.Given as goal

abbrev pub invariant-loop-number : goal.invariant-loop-number
invariant-loop-number l = l.out.items ++ longs (drop l.number-index l.numbers) ≡ l.fn.out.items ++ longs l.numbers
