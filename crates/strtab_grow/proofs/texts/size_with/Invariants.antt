use Rattle.std.proofs.Common.{◌≡◌, ◌+◌, ◌≤◌, ◌<◌, ◌^◌, drop, length, ◌-◌}
use Rattle.strtab_grow.specs.Growth.{added}
use Rattle.strtab_grow.proofs.texts.size_with.Given as goal

abbrev pub invariant-loop-text : goal.invariant-loop-text
invariant-loop-text l =
    (l.size + length (added (drop l.text-index l.texts)) ≤ l.old_size + length (added l.texts))
    × (l.size < 2 ^ 64 - 1 → l.size + length (added (drop l.text-index l.texts)) ≡ l.old_size + length (added l.texts))
