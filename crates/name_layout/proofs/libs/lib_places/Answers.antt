use Rattle.lib_closure.specs.declared.splits.Member.{Member}
use Rattle.name_layout.proofs.PlacesLemmas.{places_all, places_next}
use Rattle.name_layout.proofs.libs.lib_places.Goals as goal

pub loop-lib-preserved : goal.loop-lib-preserved
loop-lib-preserved c =
    places_next (λ (lib : Member). lib.id) c.args.libs.now c.loop-lib.lib-index c.lib-item.result c.loop-lib.places c.add.new.self c.as_bytes.result.now c.loop-lib-test.true c.lib-item.is c.loop-lib.invariant c.as_bytes.ensures c.in_ok-add.ensures

pub returns : goal.returns
returns c = places_all (λ (lib : Member). lib.id) c.args.libs.now c.loop-lib.lib-index c.loop-lib.places c.loop-lib-test.false c.loop-lib.invariant
