use Rattle.std.specs.Prelude.{◌≡◌, drop, fold, filter_map}
use Rattle.elf_shape.specs.Versions.{with_ask, ask_of_import}
use Rattle.elf_shape.proofs.versions.add_imports.Given as goal

abbrev pub invariant-loop-import : goal.invariant-loop-import
invariant-loop-import l = fold with_ask l.asks (filter_map ask_of_import (drop l.import-index l.imports)) ≡ fold with_ask l.fn.asks (filter_map ask_of_import l.imports)
