use Rattle.std.proofs.Common.{◌≡◌, map, take, zip}
use Rattle.build_texts.specs.Places.{placed_by}
use Rattle.build_texts.proofs.places.all_places.Given as goal

abbrev pub invariant-runs : goal.invariant-runs
invariant-runs l = l.places ≡ map (placed_by l.libraries.libs.split.now l.libraries.layout.now) (zip (take l.number l.runs) (take l.number l.programs))
