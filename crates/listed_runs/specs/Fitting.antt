-- Which programs can be packed without bundling a library: those whose whole load list stands on
-- the list of names that every host is expected to have.
use Rattle.std.specs.Prelude.{ℕ, List, Bool, false, not, ◌==◌, ◌&&◌, Option, Some, None, is_none, length, slice_get, zip}
use Rattle.std.specs.List.{list_all, list_any, range_with_len}
use Rattle.std.specs.Option.{unwrap_or}
use Rattle.std.specs.Result.{result_ok}
use Rattle.std.specs.Str.{bytes_eq}
use Rattle.path_text.specs.Path.{base_of, path_of}
use Rattle.load_model.specs.LoadList.{Loaded, Object}
use Rattle.load_model.specs.Runs.{face_at, face_of_object, target_in}
use Rattle.load_model.specs.SameNames.{key_of}
use Rattle.load_model.specs.declared.faces.Face.{Face}
use Rattle.load_model.specs.declared.runs.Obj.{Obj}
use Rattle.load_model.specs.declared.runs.Run.{Run}

abbrev pub is_on_list : List (List ℕ) → List ℕ → Bool
is_on_list names name = list_any (λ n. bytes_eq n name) names

-- A program interpreter whose path, in normal form, ends in a name on the list (System V gABI,
-- Program Interpreter).
abbrev pub is_listed_path : List (List ℕ) → Option (List ℕ) → Bool
is_listed_path names None = false
is_listed_path names (Some path) = is_on_list names (base_of path)

abbrev pub has_listed_interpreter : List (List ℕ) → Option (List ℕ) → Bool
has_listed_interpreter names None = false
has_listed_interpreter names (Some text) = is_listed_path names (result_ok (path_of text))

-- A program without a soname, with a listed interpreter.
abbrev pub fits_as_program : List (List ℕ) → Option Face → Bool
fits_as_program names None = false
fits_as_program names (Some face) = is_none face.soname && has_listed_interpreter names face.interp

-- The object has the name as its key.
abbrev pub has_key : List ℕ → Option Object → Bool
has_key name None = false
has_key name (Some o) = bytes_eq (key_of o) name

-- A need that is on the list and went to an object, not the program, of which it is the key.
abbrev pub fits_need : List (List ℕ) → Loaded → List ℕ → Bool
fits_need names loaded need =
    is_on_list names need
    && (not (target_in loaded.log need == 0)
    && has_key need (slice_get loaded.objs (target_in loaded.log need)))

-- An object without run paths, all of whose needs are so.
abbrev pub fits_as_object : List (List ℕ) → Loaded → Object → Bool
fits_as_object names loaded o =
    is_none o.face.rpath
    && (is_none o.face.runpath && list_all (fits_need names loaded) o.face.needs)

unfoldable pub is_all_listed : List (List ℕ) → Loaded → Bool
is_all_listed names loaded =
    fits_as_program names (face_of_object (slice_get loaded.objs 0))
    && list_all (fits_as_object names loaded) loaded.objs

-- The same of a run over a table of faces.
abbrev pub key_in : Option Obj → Option Face → Option (List ℕ)
key_in (Some x) (Some face) = Some (unwrap_or face.soname (base_of x.path))
key_in _ _ = None

abbrev pub key_at : List Face → Run → ℕ → Option (List ℕ)
key_at faces run j = key_in (slice_get run.objs j) (face_at faces run j)

abbrev pub is_key : List ℕ → Option (List ℕ) → Bool
is_key name None = false
is_key name (Some key) = bytes_eq key name

abbrev pub run_fits_need : List (List ℕ) → List Face → Run → List ℕ → ℕ → Bool
run_fits_need names faces run need target =
    is_on_list names need && (not (target == 0) && is_key need (key_at faces run target))

abbrev pub run_fits_needs : List (List ℕ) → List Face → Run → List (List ℕ) → List ℕ → Bool
run_fits_needs names faces run needs targets =
    list_all (λ p. run_fits_need names faces run p.0 p.1) (zip needs targets)

abbrev pub fits_in_run : List (List ℕ) → List Face → Run → Option Face → Option (List ℕ) → Bool
fits_in_run names faces run (Some face) (Some targets) =
    is_none face.rpath
    && (is_none face.runpath && run_fits_needs names faces run face.needs targets)
fits_in_run names faces run _ _ = false

abbrev pub run_fits_object : List (List ℕ) → List Face → Run → ℕ → Bool
run_fits_object names faces run j =
    fits_in_run names faces run (face_at faces run j) (slice_get run.targets j)

unfoldable pub run_is_all_listed : List (List ℕ) → List Face → Run → Bool
run_is_all_listed names faces run =
    fits_as_program names (face_at faces run 0)
    && list_all (run_fits_object names faces run) (range_with_len 0 (length run.objs))
