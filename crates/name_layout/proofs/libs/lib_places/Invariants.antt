use Rattle.std.proofs.Common.{map, take}
use Rattle.lib_closure.specs.declared.splits.Member.{Member}
use Rattle.name_layout.specs.Sets.{HasPlaces}
use Rattle.name_layout.proofs.libs.lib_places.Given as goal

abbrev pub invariant-loop-lib : goal.invariant-loop-lib
invariant-loop-lib l = HasPlaces l.places (map (λ (lib : Member). lib.id) (take l.lib-index l.libs))
