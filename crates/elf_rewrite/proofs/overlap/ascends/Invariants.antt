-- what is left begins behind the end so far
use Rattle.std.proofs.Common.{◌≡◌, drop}
use Rattle.elf_rewrite.specs.Ranges.{ascends}
use Rattle.elf_rewrite.proofs.overlap.ascends.Given as goal

abbrev pub invariant-loop-r : goal.invariant-loop-r
invariant-loop-r l = ascends l.end (drop l.r-index l.ranges) ≡ ascends 0 l.ranges
