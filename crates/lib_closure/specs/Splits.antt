-- The split of a build: its programs, its host libraries and its bundled libraries, or the first
-- clash.
use Rattle.std.specs.Prelude.{ℕ, List, Option, Some, None, Result, filter, map}
use Rattle.answers.specs.First.{first_some, value_unless}
use Rattle.load_model.specs.declared.faces.Face.{Face}
use Rattle.load_model.specs.declared.runs.Run.{Run}
use Rattle.lib_closure.specs.Clashes.{kinds_in_order, hosts_of}
use Rattle.lib_closure.specs.Kinds.{is_bundled}
use Rattle.lib_closure.specs.Objects.{Occurrence, first_places, key_held, path_held, programs_of}
use Rattle.lib_closure.specs.declared.splits.HostLib.{HostLib}
use Rattle.lib_closure.specs.declared.splits.Member.{Member}
use Rattle.lib_closure.specs.declared.splits.Split.{Split}
use Rattle.lib_closure.specs.declared.stops.ClosureStop.{ClosureStop}
use Rattle.lib_closure.specs.declared.stops.ClosureStop.TheVariants.{NoMemory}

abbrev pub member_of : Occurrence → Member
member_of o = record { id = o.obj.id; path = path_held o; face = o.obj.face }

abbrev pub host_lib_of : Occurrence → HostLib
host_lib_of o =
    record { name = key_held o; id = o.obj.id; path = path_held o; face = o.obj.face }

module _ (faces : List Face) (runs : List Run) (names : List (List ℕ)) where
  -- The bundled libraries, each at its first place.
  abbrev pub bundled_of : List Occurrence
  bundled_of = filter (is_bundled faces runs names) (first_places faces runs)

  -- The programs as their own load lists have them; the libraries at their first places.
  unfoldable pub parts_of_build : Split
  parts_of_build = record {
    programs = map member_of (programs_of faces runs);
    libs = map member_of bundled_of;
    hosts = map host_lib_of (hosts_of faces runs names);
  }

  -- The split, unless there is a clash.
  unfoldable pub split_of : Result Split ClosureStop
  split_of = value_unless (first_some (kinds_in_order faces runs names)) parts_of_build

-- The clash that a stop says; want of memory says none.
abbrev pub said_of_stop : ClosureStop → Option ClosureStop
said_of_stop NoMemory = None
said_of_stop stop = Some stop
