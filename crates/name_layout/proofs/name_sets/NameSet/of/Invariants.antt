use Rattle.std.proofs.Common.{take}
use Rattle.name_layout.specs.Sets.{HasNames}
use Rattle.name_layout.proofs.name_sets.NameSet.of.Given as goal

abbrev pub invariant-loop-name : goal.invariant-loop-name
invariant-loop-name l = HasNames l.set (take l.name-index l.names)
