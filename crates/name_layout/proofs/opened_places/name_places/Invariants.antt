use Rattle.std.proofs.Common.{map, take}
use Rattle.name_layout.specs.Sets.{HasPlaces}
use Rattle.name_layout.specs.declared.opened.Opened.{Opened}
use Rattle.name_layout.proofs.opened_places.name_places.Given as goal

abbrev pub invariant-loop-opened : goal.invariant-loop-opened
invariant-loop-opened l = HasPlaces l.places (map (λ (opened : Opened). opened.name.now) (take l.opened-index l.all))
