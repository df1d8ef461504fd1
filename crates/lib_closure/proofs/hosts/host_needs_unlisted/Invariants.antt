use Rattle.std.proofs.Common.{◌≡◌, drop, map}
use Rattle.answers.specs.First.{first_some}
use Rattle.lib_closure.specs.Clashes.{need_unlisted}
use Rattle.lib_closure.specs.OfBuild.{of_build}
use Rattle.lib_closure.specs.Seen.{standing}
use Rattle.lib_closure.proofs.hosts.host_needs_unlisted.Given as goal

abbrev pub invariant-loop-seen : goal.invariant-loop-seen
invariant-loop-seen l =
    first_some (map (of_build need_unlisted l.build) (map standing (drop l.seen-index l.seen-items)))
    ≡ first_some (map (of_build need_unlisted l.build) (map standing l.seen-items))
