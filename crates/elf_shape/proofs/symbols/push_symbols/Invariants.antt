use Rattle.std.specs.Prelude.{◌≡◌, ◌++◌, drop}
use Rattle.elf_shape.specs.Symbols.{symbol_table}
use Rattle.elf_shape.proofs.symbols.push_symbols.Given as goal

abbrev pub invariant-loop-symbol : goal.invariant-loop-symbol
invariant-loop-symbol l = l.out.items ++ symbol_table (drop l.symbol-index l.symbols) ≡ l.fn.out.items ++ symbol_table l.symbols
