use Rattle.std.specs.Prelude.{◌≡◌, drop, fold, map}
use Rattle.elf_shape.specs.Texts.{with_string}
use Rattle.elf_shape.proofs.strings.add_import_names.Given as goal

abbrev pub invariant-loop-import : goal.invariant-loop-import
invariant-loop-import l = fold with_string l.texts (map (λ i. i.name) (drop l.import-index l.imports)) ≡ fold with_string l.fn.texts (map (λ i. i.name) l.imports)
