use Rattle.std.specs.Prelude.{◌≡◌, drop, fold}
use Rattle.elf_shape.specs.Texts.{with_string}
use Rattle.elf_shape.proofs.strings.add_strings.Given as goal

abbrev pub invariant-loop-text : goal.invariant-loop-text
invariant-loop-text l = fold with_string l.texts (drop l.text-index l.more) ≡ fold with_string l.fn.texts l.more
