-- the tables so far, and those of the numbers that are left, are all
use Rattle.std.proofs.Common.{◌≡◌, ◌+◌, ◌-◌, ◌++◌, map}
use Rattle.std.specs.List.{range_with_len}
use Rattle.elf_rewrite.specs.Ranges.{ranges_of, tables}
use Rattle.elf_rewrite.specs.declared.numbering.TheConstants.{SECTIONS}
use Rattle.elf_rewrite.proofs.overlap.first_overlap.Given as goal

abbrev pub invariant-loop-n : goal.invariant-loop-n
invariant-loop-n l = l.tables ++ map (λ n. ranges_of l.bytes n) (range_with_len l.n (SECTIONS + 1 - l.n)) ≡ tables l.bytes
