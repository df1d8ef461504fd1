use Rattle.std.proofs.Common.{◌≡◌, [], drop, map, take}
use Rattle.answers.specs.First.{first_some}
use Rattle.lib_closure.specs.Clashes.{beside_earlier, clash_of_hosts}
use Rattle.lib_closure.specs.Objects.{key_held}
use Rattle.lib_closure.specs.OfBuild.{of_build}
use Rattle.lib_closure.specs.Seen.{standing}
use Rattle.lib_closure.proofs.hosts.host_name_clash.Given as goal

abbrev pub invariant-loop-host : goal.invariant-loop-host
invariant-loop-host l =
    (l.keys ≡ map key_held (map standing (take l.host-index l.hosts)))
    × (first_some (map (of_build clash_of_hosts l.build) (beside_earlier (map standing (take l.host-index l.hosts)) (map standing (drop l.host-index l.hosts))))
    ≡ first_some (map (of_build clash_of_hosts l.build) (beside_earlier [] (map standing l.hosts))))
