use Rattle.std.proofs.Common.{subst}
use Rattle.name_layout.specs.Opened.{as_opening}
use Rattle.name_layout.specs.Openings.{Opening}
use Rattle.name_layout.specs.Sets.{HasPlaces}
use Rattle.name_layout.specs.declared.opened.Opened.{Opened}
use Rattle.name_layout.proofs.PlacesLemmas.{map_through, places_all, places_next}
use Rattle.name_layout.proofs.opened_places.name_places.Goals as goal

pub loop-opened-preserved : goal.loop-opened-preserved
loop-opened-preserved c =
    places_next (λ (opened : Opened). opened.name.now) c.args.all.now c.loop-opened.opened-index c.opened-item.result c.loop-opened.places c.add.new.self c.as_bytes.result.now c.loop-opened-test.true c.opened-item.is c.loop-opened.invariant c.as_bytes.ensures c.in_ok-add.ensures

pub returns : goal.returns
returns c =
    subst (HasPlaces c.loop-opened.places) (map_through as_opening (λ (o : Opening). o.name) c.args.all.now)
    (places_all (λ (opened : Opened). opened.name.now) c.args.all.now c.loop-opened.opened-index c.loop-opened.places c.loop-opened-test.false c.loop-opened.invariant)
