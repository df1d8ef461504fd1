use Rattle.std.proofs.Common.{◌≡◌, map, take}
use Rattle.lib_closure.specs.Seen.{standing}
use Rattle.lib_closure.specs.Splits.{member_of}
use Rattle.lib_closure.proofs.parts.members_of.Given as goal

abbrev pub invariant-loop-seen : goal.invariant-loop-seen
invariant-loop-seen l = l.members ≡ map member_of (map standing (take l.seen-index l.all))
