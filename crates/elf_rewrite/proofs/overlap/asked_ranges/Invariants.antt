-- the ranges so far, and those of the rest, are all
use Rattle.std.proofs.Common.{◌≡◌, ◌++◌, drop, map}
use Rattle.elf_rewrite.specs.Ranges.{from_place}
use Rattle.elf_rewrite.proofs.overlap.asked_ranges.Given as goal

abbrev pub invariant-loop-place : goal.invariant-loop-place
invariant-loop-place l = l.out ++ map (λ at. from_place 16 at) (drop l.place-index l.places) ≡ map (λ at. from_place 16 at) l.places
