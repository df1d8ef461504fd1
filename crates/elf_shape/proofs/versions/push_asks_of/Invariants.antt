use Rattle.std.specs.Prelude.{◌≡◌, ◌++◌, drop}
use Rattle.elf_shape.specs.Versions.{asks_of_file}
use Rattle.elf_shape.proofs.versions.push_asks_of.Given as goal

abbrev pub invariant-loop-ask : goal.invariant-loop-ask
invariant-loop-ask l = l.out ++ asks_of_file l.file (drop l.ask-index l.asks) ≡ l.fn.out ++ asks_of_file l.file l.asks
