use Rattle.std.specs.Prelude.{◌≡◌, ◌≤◌, ◌+◌, drop, filter, length}
use Rattle.elf_shape.specs.Symbols.{has_no_value}
use Rattle.elf_shape.proofs.symbols.count_plain.Given as goal

abbrev pub invariant-loop-import : goal.invariant-loop-import
invariant-loop-import l = (l.count ≤ l.import-index) × (l.count + length (filter (λ i. has_no_value i) (drop l.import-index l.imports)) ≡ length (filter (λ i. has_no_value i) l.imports))
