-- two share a place where two of those that are left do
use Rattle.std.proofs.Common.{◌≡◌, drop}
use Rattle.elf_rewrite.specs.Ranges.{shares_within}
use Rattle.elf_rewrite.proofs.overlap.shares_within.Given as goal

abbrev pub invariant-loop-i : goal.invariant-loop-i
invariant-loop-i l = shares_within (drop l.i l.rs) ≡ shares_within l.rs
