use Rattle.std.proofs.Common.{◌≡◌, filter, map, take}
use Rattle.lib_closure.specs.Kinds.{is_host_library}
use Rattle.lib_closure.specs.OfBuild.{of_build}
use Rattle.lib_closure.specs.Seen.{standing}
use Rattle.lib_closure.proofs.hosts.hosts_of.Given as goal

abbrev pub invariant-loop-seen : goal.invariant-loop-seen
invariant-loop-seen l =
    map standing l.hosts.items ≡ filter (of_build is_host_library l.build) (map standing (take l.seen-index l.seen-items))
