use Rattle.std.proofs.Common.{map, take}
use Rattle.lib_closure.specs.declared.splits.HostLib.{HostLib}
use Rattle.name_layout.specs.Sets.{HasPlaces}
use Rattle.name_layout.proofs.libs.host_places.Given as goal

abbrev pub invariant-loop-host : goal.invariant-loop-host
invariant-loop-host l = HasPlaces l.places (map (λ (host : HostLib). host.id) (take l.host-index l.hosts))
