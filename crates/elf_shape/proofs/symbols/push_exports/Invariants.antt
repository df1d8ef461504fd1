use Rattle.std.specs.Prelude.{◌≡◌, ◌++◌, drop}
use Rattle.elf_shape.specs.Symbols.{exports_from}
use Rattle.elf_shape.proofs.symbols.push_exports.Given as goal

abbrev pub invariant-loop-export : goal.invariant-loop-export
invariant-loop-export l = l.out ++ exports_from l.texts l.versions l.index (drop l.export-index l.exports) ≡ l.fn.out ++ exports_from l.texts l.versions l.first l.exports
