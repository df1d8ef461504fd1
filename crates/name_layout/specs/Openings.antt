-- The names that programs open, and what keeps a bundled library from the name under which it is
-- opened.
use Rattle.std.specs.Prelude.{ℕ, List, [], ◌∷◌, filter, is_some, not, Option, Some, None, map, slice_get, zip}
use Rattle.std.specs.List.{filter_map, find, flat_map}
use Rattle.std.specs.Option.{option_and_then, option_map}
use Rattle.std.specs.Str.{bytes_eq}
use Rattle.answers.specs.First.{first_some, some_where}
use Rattle.lib_closure.specs.declared.splits.HostLib.{HostLib}
use Rattle.lib_closure.specs.declared.splits.Member.{Member}
use Rattle.lib_closure.specs.declared.splits.Split.{Split}
use Rattle.listed_runs.specs.Fitting.{is_on_list}
use Rattle.load_model.specs.declared.runs.Run.{Run}
use Rattle.name_layout.specs.declared.stops.NameStop.{NameStop}
use Rattle.name_layout.specs.declared.stops.NameStop.TheVariants.{OpenAlias, OpenNameOnHostList, TwoOpenNames, NameClash}

-- A name that a program opens, and the identity of the object that it went to.
pub record Opening : Type 0 where
  pub name : List ℕ
  pub root : List ℕ

abbrev pub opening : Run → (List ℕ × ℕ) → Option Opening
opening run opened =
    option_map (λ o. record { name = opened.0; root = o.id }) (slice_get run.objs opened.1)

abbrev pub openings_of : Run → List Opening
openings_of run = filter_map (opening run) (zip run.opens run.roots)

-- By program, and then in the order of opening.
unfoldable pub openings : List Run → List Opening
openings runs = flat_map openings_of runs

-- The host library, or the bundled library, of this identity.
abbrev pub host_with : Split → List ℕ → Option HostLib
host_with split id = find (λ host. bytes_eq id host.id) split.hosts

abbrev pub lib_with : Split → List ℕ → Option Member
lib_with split id = find (λ lib. bytes_eq id lib.id) split.libs

-- The names under which bundled libraries are opened.
unfoldable pub bundled_openings : Split → List Run → List Opening
bundled_openings split runs = filter (λ o. is_some (lib_with split o.root)) (openings runs)

module _ (split : Split) (names : List (List ℕ)) (runs : List Run) where
  -- A host library is opened under a name that is not its key.
  abbrev pub opened_alias : Opening → Option HostLib → Option NameStop
  opened_alias o None = None
  opened_alias o (Some host) =
      some_where (not (bytes_eq o.name host.name)) (OpenAlias o.name host.name)

  -- A bundled library is opened under a name of the host list.
  abbrev pub opened_as_host : Opening → Option NameStop
  opened_as_host o = some_where (is_on_list names o.name) (OpenNameOnHostList o.name)

  -- It was opened first under another name.
  abbrev pub renamed : Opening → Member → Option Opening → Option NameStop
  renamed o lib None = None
  renamed o lib (Some first) =
      some_where (not (bytes_eq o.name first.name)) (TwoOpenNames lib.path first.name o.name)

  -- Another one was opened first under the name.
  abbrev pub name_given : Opening → Member → Option Member → Option NameStop
  name_given o lib None = None
  name_given o lib (Some other) =
      some_where (not (bytes_eq lib.id other.id)) (NameClash o.name other.path lib.path)

  abbrev pub first_of_root : Opening → Option Opening
  first_of_root o = find (λ e. bytes_eq o.root e.root) (openings runs)

  abbrev pub first_of_name : Opening → Option Opening
  first_of_name o = find (λ e. bytes_eq o.name e.name) (bundled_openings split runs)

  abbrev pub bundled_stop : Opening → Option Member → Option NameStop
  bundled_stop o None = None
  bundled_stop o (Some lib) =
      first_some (opened_as_host o ∷ renamed o lib (first_of_root o)
      ∷ name_given o lib (option_and_then (λ e. lib_with split e.root) (first_of_name o)) ∷ [])

  -- What is refused of an opened name.
  abbrev pub opening_stop : Opening → Option NameStop
  opening_stop o =
      first_some (opened_alias o (host_with split o.root) ∷ bundled_stop o (lib_with split o.root)
      ∷ [])

  unfoldable pub first_opening_stop : Option NameStop
  first_opening_stop = first_some (map opening_stop (openings runs))
