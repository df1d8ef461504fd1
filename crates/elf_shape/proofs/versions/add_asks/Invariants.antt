use Rattle.std.specs.Prelude.{◌≡◌, drop, fold}
use Rattle.elf_shape.specs.Versions.{with_ask}
use Rattle.elf_shape.proofs.versions.add_asks.Given as goal

abbrev pub invariant-loop-ask : goal.invariant-loop-ask
invariant-loop-ask l = fold with_ask l.asks (drop l.ask-index l.more) ≡ fold with_ask l.fn.asks l.more
