use Rattle.std.proofs.Common.{◌≡◌, [], map, drop}
use Rattle.lib_closure.specs.Objects.{each_first}
use Rattle.lib_closure.specs.Firsts.{AreFirsts}
use Rattle.lib_closure.specs.Seen.{standing}
use Rattle.lib_closure.proofs.firsts.Firsts.of.Given as goal

abbrev pub invariant-loop-seen : goal.invariant-loop-seen
invariant-loop-seen l =
    AreFirsts l.firsts (map standing l.firsts.seen.items)
    × (each_first (map standing l.firsts.seen.items) (map standing (drop l.seen-index l.all)) ≡ each_first [] (map standing l.all))
