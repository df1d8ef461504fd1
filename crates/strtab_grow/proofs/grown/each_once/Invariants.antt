use Rattle.std.proofs.Common.{◌≡◌, drop, ◌++◌}
use Rattle.strtab_grow.specs.Growth.{once, once_after}
use Rattle.strtab_grow.proofs.grown.each_once.Given as goal

abbrev pub invariant-loop-text : goal.invariant-loop-text
invariant-loop-text l = l.seen.items ++ once_after l.seen.items (drop l.text-index l.texts) ≡ once l.texts
