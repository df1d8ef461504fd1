-- The names of objects in the directory, by their identities: objects of one identity are one
-- object.
use Rattle.std.specs.Prelude.{ℕ, List, Bool, Option, is_some, position, slice_get}
use Rattle.std.specs.Option.{option_and_then, option_map, option_or}
use Rattle.std.specs.Str.{bytes_eq}
use Rattle.lib_closure.specs.Objects.{Occurrence, in_same_list}
use Rattle.lib_closure.specs.declared.splits.Split.{Split}
use Rattle.name_layout.specs.Openings.{host_with, lib_with}
use Rattle.name_layout.specs.declared.layouts.Layout.{Layout}

module _ (split : Split) (layout : Layout) where
  -- The file name of a bundled library, and the key of a host library.
  abbrev pub file_name_of : List ℕ → Option (List ℕ)
  file_name_of id =
      option_and_then (slice_get layout.libs) (position (λ lib. bytes_eq id lib.id) split.libs)

  abbrev pub key_name_of : List ℕ → Option (List ℕ)
  key_name_of id = option_map (λ host. host.name) (host_with split id)

  -- The name of the object of this identity, which every text that goes to it becomes.
  unfoldable pub new_name_of : List ℕ → Option (List ℕ)
  new_name_of id = option_or (file_name_of id) (key_name_of id)

  -- The same of the object of a number in the load list of another.
  unfoldable pub name_beside : Occurrence → ℕ → Option (List ℕ)
  name_beside o j = option_and_then (λ target. new_name_of target.obj.id) (in_same_list o j)

  -- The object of this number there is a bundled library.
  unfoldable pub goes_to_bundled : Occurrence → ℕ → Bool
  goes_to_bundled o j =
      is_some (option_and_then (λ target. lib_with split target.obj.id) (in_same_list o j))
