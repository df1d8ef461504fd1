-- the first pair is among those that are left
use Rattle.std.proofs.Common.{◌≡◌}
use Rattle.std.specs.List.{find}
use Rattle.elf_rewrite.specs.Ranges.{first_pair, overlaps}
use Rattle.elf_rewrite.proofs.PairSteps.{pairs_from}
use Rattle.elf_rewrite.proofs.overlap.first_pair.Given as goal

abbrev pub invariant-loop-m : goal.invariant-loop-m
invariant-loop-m l =
    find (λ p. overlaps l.tables l.needs l.asked p.0 p.1) (pairs_from l.m) ≡ first_pair l.tables l.needs l.asked
