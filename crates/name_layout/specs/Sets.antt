-- What sets and tables of names hold.
use Rattle.std.specs.Prelude.{ℕ, List, Option, ◌≡◌, bytes_eq, length, position, slice_get}
use Rattle.std.specs.List.{list_any}
use Rattle.std.specs.Option.{option_and_then}
use Rattle.listed_runs.specs.Fitting.{is_on_list}
use Rattle.name_layout.specs.declared.places.Places.{Places}

-- The set has the names of the list, and no others.
abbrev pub HasNames : List (List ℕ) → List (List ℕ) → Type 0
HasNames set names = (name : List ℕ) → list_any (bytes_eq name) set ≡ is_on_list names name

-- The place that is kept for a name.
abbrev pub place_kept : Places → List ℕ → Option ℕ
place_kept places name =
    option_and_then (slice_get places.firsts.items) (position (bytes_eq name) places.names)

-- For each name the table has the place at which it stands first among the names.
pub record HasPlaces (places : Places) (names : List (List ℕ)) : Type 0 where
  pub each : (name : List ℕ) → place_kept places name ≡ position (bytes_eq name) names
  pub count : places.count ≡ length names
  pub size : length places.firsts.items ≡ length places.names
