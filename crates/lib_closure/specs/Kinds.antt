-- What an object is in a build: a program, a host library by its key, or a bundled library.
use Rattle.std.specs.Prelude.{ℕ, List, Bool, false, not, ◌&&◌, Option, Some, None}
use Rattle.std.specs.List.{list_any}
use Rattle.listed_runs.specs.Fitting.{is_on_list}
use Rattle.load_model.specs.declared.faces.Face.{Face}
use Rattle.load_model.specs.declared.runs.Run.{Run}
use Rattle.lib_closure.specs.Objects.{Occurrence, first_place_of, has_id, in_same_list, key_held, program_files}

module _ (faces : List Face) (runs : List Run) (names : List (List ℕ)) where
  -- It has the identity of a program.
  abbrev pub is_program : Occurrence → Bool
  is_program o = list_any (has_id o.obj.id) (program_files faces runs)

  abbrev pub has_listed_key : Occurrence → Bool
  has_listed_key o = is_on_list names (key_held (first_place_of faces runs o))

  -- All but the programs are host libraries, where their key is on the host list, or bundled.
  unfoldable pub is_host_library : Occurrence → Bool
  is_host_library o = not (is_program o) && has_listed_key o

  unfoldable pub is_bundled : Occurrence → Bool
  is_bundled o = not (is_program o) && not (has_listed_key o)

  abbrev pub is_bundled_if_any : Option Occurrence → Bool
  is_bundled_if_any None = false
  is_bundled_if_any (Some o) = is_bundled o

  -- The object of this number is bundled.
  abbrev pub is_bundled_at : Occurrence → ℕ → Bool
  is_bundled_at o j = is_bundled_if_any (in_same_list o j)
