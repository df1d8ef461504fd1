-- the ranges so far, and those of the rest, are all
use Rattle.std.proofs.Common.{◌≡◌, ◌-◌, ◌++◌, drop, map}
use Rattle.elf_rewrite.specs.Ranges.{from_place}
use Rattle.elf_rewrite.proofs.overlap.need_ranges.Given as goal

abbrev pub invariant-loop-word : goal.invariant-loop-word
invariant-loop-word l = l.out ++ map (λ at. from_place 16 (at - 4)) (drop l.word-index l.words) ≡ map (λ at. from_place 16 (at - 4)) l.words
