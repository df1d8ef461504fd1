use Rattle.std.specs.Prelude.{◌≡◌, drop, fold, map}
use Rattle.elf_shape.specs.Texts.{with_string}
use Rattle.elf_shape.proofs.strings.add_version_names.Given as goal

abbrev pub invariant-loop-ask : goal.invariant-loop-ask
invariant-loop-ask l = fold with_string l.texts (map (λ a. a.name) (drop l.ask-index l.asks)) ≡ fold with_string l.fn.texts (map (λ a. a.name) l.asks)
