use Rattle.std.specs.Prelude.{◌≡◌, ◌++◌, drop, filter, map}
use Rattle.elf_shape.specs.Symbols.{has_no_value, import_symbol}
use Rattle.elf_shape.proofs.symbols.push_plain.Given as goal

abbrev pub invariant-loop-import : goal.invariant-loop-import
invariant-loop-import l = l.out ++ map (import_symbol l.texts l.versions) (filter (λ i. has_no_value i) (drop l.import-index l.imports)) ≡ l.fn.out ++ map (import_symbol l.texts l.versions) (filter (λ i. has_no_value i) l.imports)
