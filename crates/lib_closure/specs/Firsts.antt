-- Objects that are found by their identities.
use Rattle.std.specs.Prelude.{List, ◌≡◌, map}
use Rattle.lib_closure.specs.Objects.{Occurrence}
use Rattle.lib_closure.specs.Seen.{standing}
use Rattle.lib_closure.specs.declared.firsts.Firsts.{Firsts}

-- These objects are kept, with their identities.
pub record AreFirsts (firsts : Firsts) (objects : List Occurrence) : Type 0 where
  pub seen : map standing firsts.seen.items ≡ objects
  pub ids : firsts.ids ≡ map (λ o. o.obj.id) objects
