-- The objects of the load lists of a build, each where it stands and where it stood first. Objects
-- of one identity are one object, which is known by its first place, by program and load order.
use Rattle.std.specs.Prelude.{ℕ, List, [], ◌∷◌, ◌++◌, Bool, cond, Option, length, map, slice_get, zip}
use Rattle.std.specs.List.{filter_map, find, flat_map, list_any}
use Rattle.std.specs.Option.{option_and_then, option_map, unwrap_or}
use Rattle.std.specs.Str.{bytes_eq}
use Rattle.load_model.specs.LoadList.{up_to}
use Rattle.load_model.specs.SameNames.{key_of}
use Rattle.load_model.specs.VersionCheck.{version_file_of}
use Rattle.load_model.specs.declared.asks.Ask.{Ask}
use Rattle.load_model.specs.declared.faces.Face.{Face}
use Rattle.load_model.specs.declared.runs.Obj.{Obj}
use Rattle.load_model.specs.declared.runs.Run.{Run}

-- An object where it stands: in a load list over a table of faces, under its number there.
pub record Occurrence : Type 0 where
  pub faces : List Face
  pub run : Run
  pub number : ℕ
  pub obj : Obj
  pub face : Face

abbrev pub occurrence : List Face → Run → ℕ → Obj → Option Occurrence
occurrence faces run j obj =
    option_map (λ face. record { faces = faces; run = run; number = j; obj = obj; face = face })
    (slice_get faces obj.face)

-- The object of this number in a load list.
unfoldable pub occurrence_at : List Face → Run → ℕ → Option Occurrence
occurrence_at faces run j = option_and_then (occurrence faces run j) (slice_get run.objs j)

-- The object of this number in the load list of another.
abbrev pub in_same_list : Occurrence → ℕ → Option Occurrence
in_same_list o j = occurrence_at o.faces o.run j

-- The objects of a load list in order, and those of all lists, program by program.
unfoldable pub objects_of : List Face → Run → List Occurrence
objects_of faces run = filter_map (occurrence_at faces run) (up_to (length run.objs))

unfoldable pub all_objects : List Face → List Run → List Occurrence
all_objects faces runs = flat_map (objects_of faces) runs

-- The programs, in order.
unfoldable pub programs_of : List Face → List Run → List Occurrence
programs_of faces runs = filter_map (λ run. occurrence_at faces run 0) runs

-- The object has this identity.
abbrev pub has_id : List ℕ → Occurrence → Bool
has_id id o = bytes_eq id o.obj.id

-- The objects and one more, unless it is there.
abbrev pub with_object : List Occurrence → Occurrence → List Occurrence
with_object os o = cond (list_any (has_id o.obj.id) os) os (os ++ o ∷ [])

-- Each object once, where it stands first.
unfoldable pub each_first : List Occurrence → List Occurrence → List Occurrence
each_first os [] = os
each_first os (o ∷ more) = each_first (with_object os o) more

-- All objects, and the programs, each at its first place.
abbrev pub first_places : List Face → List Run → List Occurrence
first_places faces runs = each_first [] (all_objects faces runs)

abbrev pub program_files : List Face → List Run → List Occurrence
program_files faces runs = each_first [] (programs_of faces runs)

-- The first place of an object, which gives its path and its key wherever it stands.
unfoldable pub first_place_of : List Face → List Run → Occurrence → Occurrence
first_place_of faces runs o = unwrap_or (find (has_id o.obj.id) (first_places faces runs)) o

abbrev pub path_held : Occurrence → List ℕ
path_held o = o.obj.path

abbrev pub key_held : Occurrence → List ℕ
key_held o = key_of (record { path = o.obj.path; id = o.obj.id; face = o.face })

-- The objects that the needs of an object went to, by their numbers, and its needs with them.
abbrev pub own_targets : Occurrence → List ℕ
own_targets o = unwrap_or (slice_get o.run.targets o.number) []

abbrev pub own_needs : Occurrence → List (List ℕ × ℕ)
own_needs o = zip o.face.needs (own_targets o)

-- The objects that the files of its asks name, where they name one, and its asks with them.
unfoldable pub files_named : Occurrence → List (Option ℕ)
files_named o = map (λ ask. version_file_of o.faces o.run o.number ask.file) o.face.asks

abbrev pub own_asks : Occurrence → List (Ask × Option ℕ)
own_asks o = zip o.face.asks (files_named o)
