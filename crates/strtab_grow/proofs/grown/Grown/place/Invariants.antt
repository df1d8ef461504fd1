use Rattle.std.proofs.Common.{◌≡◌, ◌+◌, ◌<◌, ◌^◌, length, drop}
use Rattle.strtab_grow.specs.Growth.{added, place_from}
use Rattle.strtab_grow.proofs.grown.Grown.place.Given as goal

abbrev pub invariant-loop-new : goal.invariant-loop-new
invariant-loop-new l =
    (place_from l.at l.text (drop l.new-index l.self.texts) ≡ place_from l.self.old_size l.text l.self.texts)
    × (l.at + length (added (drop l.new-index l.self.texts)) < 2 ^ 32)
