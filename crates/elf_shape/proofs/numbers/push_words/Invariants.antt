use Rattle.std.specs.Prelude.{◌≡◌, ◌++◌, drop}
use Rattle.elf_shape.specs.Bytes.{words}
use Rattle.elf_shape.proofs.numbers.push_words.Given as goal

abbrev pub invariant-loop-number : goal.invariant-loop-number
invariant-loop-number l = l.out.items ++ words (drop l.number-index l.numbers) ≡ l.fn.out.items ++ words l.numbers
