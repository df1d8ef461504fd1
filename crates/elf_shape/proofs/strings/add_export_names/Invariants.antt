use Rattle.std.specs.Prelude.{◌≡◌, drop, fold, map}
use Rattle.elf_shape.specs.Texts.{with_string}
use Rattle.elf_shape.proofs.strings.add_export_names.Given as goal

abbrev pub invariant-loop-export : goal.invariant-loop-export
invariant-loop-export l = fold with_string l.texts (map (λ e. e.name) (drop l.export-index l.exports)) ≡ fold with_string l.fn.texts (map (λ e. e.name) l.exports)
