-- The place of a library among those of a split.
use Rattle.std.proofs.Common.{◌≡◌, ◌∙◌, ℕ, List, Option, bytes_eq, map, position}
use Rattle.lib_closure.specs.declared.splits.Member.{Member}
use Rattle.lib_closure.specs.declared.splits.Split.{Split}
use Rattle.text_sets.proofs.MappedLemmas.{position-map}
use Rattle.name_layout.specs.Sets.{HasPlaces, place_kept}
use Rattle.name_layout.specs.declared.places.Places.{Places}

pub lib_place : (split : Split) (places : Places) (id : List ℕ) (place : Option ℕ) → HasPlaces places (map (λ (lib : Member). lib.id) split.libs) → place ≡ place_kept places id → place ≡ position (λ (lib : Member). bytes_eq id lib.id) split.libs
lib_place split places id place has h = h ∙ has.each id ∙ position-map (bytes_eq id) (λ (lib : Member). lib.id) split.libs
