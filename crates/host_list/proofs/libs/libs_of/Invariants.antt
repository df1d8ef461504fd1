use Rattle.std.proofs.Common.{◌≡◌, ◌++◌, drop, map}
use Rattle.host_list.specs.Recording.{recorded_lib}
use Rattle.host_list.proofs.libs.libs_of.Given as goal

abbrev pub invariant-hosts : goal.invariant-hosts
invariant-hosts l = l.libs ++ map (recorded_lib l.faces) (drop l.host-index l.hosts) ≡ map (recorded_lib l.faces) l.hosts
