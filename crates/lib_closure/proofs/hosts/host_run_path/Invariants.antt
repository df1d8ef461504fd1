use Rattle.std.proofs.Common.{◌≡◌, drop, map}
use Rattle.std.specs.List.{find}
use Rattle.lib_closure.specs.Clashes.{has_run_path}
use Rattle.lib_closure.specs.OfBuild.{of_build}
use Rattle.lib_closure.specs.Seen.{standing}
use Rattle.lib_closure.proofs.hosts.host_run_path.Given as goal

abbrev pub invariant-loop-host : goal.invariant-loop-host
invariant-loop-host l =
    find (of_build has_run_path l.build) (map standing (drop l.host-index l.hosts))
    ≡ find (of_build has_run_path l.build) (map standing l.hosts)
