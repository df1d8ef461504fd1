use Rattle.lib_closure.specs.declared.splits.HostLib.{HostLib}
use Rattle.name_layout.proofs.PlacesLemmas.{places_all, places_next}
use Rattle.name_layout.proofs.libs.host_places.Goals as goal

pub loop-host-preserved : goal.loop-host-preserved
loop-host-preserved c =
    places_next (λ (host : HostLib). host.id) c.args.hosts.now c.loop-host.host-index c.host-item.result c.loop-host.places c.add.new.self c.as_bytes.result.now c.loop-host-test.true c.host-item.is c.loop-host.invariant c.as_bytes.ensures c.in_ok-add.ensures

pub returns : goal.returns
returns c = places_all (λ (host : HostLib). host.id) c.args.hosts.now c.loop-host.host-index c.loop-host.places c.loop-host-test.false c.loop-host.invariant
