-- the ranges so far, and those of the rest, are all
use Rattle.std.proofs.Common.{◌≡◌, ◌++◌, ◌∷◌, [], drop}
use Rattle.std.specs.List.{flat_map}
use Rattle.elf_rewrite.specs.Ranges.{from_place}
use Rattle.elf_rewrite.proofs.overlap.definition_ranges.Given as goal

abbrev pub invariant-loop-x : goal.invariant-loop-x
invariant-loop-x l =
    l.out ++ flat_map (λ p. from_place 20 p.0 ∷ from_place 8 p.1 ∷ []) (drop l.x-index l.places)
    ≡ flat_map (λ p. from_place 20 p.0 ∷ from_place 8 p.1 ∷ []) l.places
