use Rattle.std.proofs.Common.{◌≡◌, ◌+◌, length, drop, take, ◌++◌}
use Rattle.strtab_grow.specs.Growth.{added}
use Rattle.strtab_grow.proofs.grown.Grown.fill.Given as goal

abbrev pub invariant-loop-text : goal.invariant-loop-text
invariant-loop-text l =
    (take l.at l.buf ++ added (drop l.text-index l.self.texts) ≡ added l.self.texts)
    × (l.at + length (added (drop l.text-index l.self.texts)) ≡ length l.buf)
