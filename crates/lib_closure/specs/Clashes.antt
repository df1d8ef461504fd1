-- What keeps the objects of a build from being split, each kind with the place where it stands
-- first: by program, then load order, and at an object first the object itself, then its needs, the
-- names that a program opens, and its asks.
use Rattle.std.specs.Prelude.{ℕ, List, [], ◌∷◌, ◌++◌, Bool, false, not, ◌==◌, ◌||◌, cond, Option, Some, None, filter, is_none, is_some, map, zip}
use Rattle.std.specs.List.{find}
use Rattle.std.specs.Option.{option_and_then, option_map}
use Rattle.std.specs.Str.{bytes_eq}
use Rattle.answers.specs.First.{first_some, some_where}
use Rattle.listed_runs.specs.Fitting.{has_listed_interpreter}
use Rattle.load_model.specs.declared.asks.Ask.{Ask}
use Rattle.load_model.specs.declared.faces.Face.{Face}
use Rattle.load_model.specs.declared.runs.Run.{Run}
use Rattle.lib_closure.specs.Kinds.{is_bundled, is_bundled_at, is_host_library}
use Rattle.lib_closure.specs.Objects.{Occurrence, all_objects, files_named, first_place_of, first_places, has_id, in_same_list, key_held, own_asks, own_needs, own_targets, path_held, program_files, programs_of}
use Rattle.lib_closure.specs.declared.stops.ClosureStop.{ClosureStop}
use Rattle.lib_closure.specs.declared.stops.ClosureStop.TheVariants.{NoInterpreter, InterpreterUnlisted, ProgramNeeded, HostNameClash, HostRpath, HostNeedsUnlisted, HostAlias, SplitNeed}

-- Each element beside those before it.
abbrev pub beside_earlier : {X : Type 0} → List X → List X → List (List X × X)
beside_earlier before [] = []
beside_earlier before (x ∷ xs) = (before, x) ∷ beside_earlier (before ++ x ∷ []) xs

module _ (faces : List Face) (runs : List Run) (names : List (List ℕ)) where
  -- The path of an object is that of its first place, and so is its key.
  abbrev pub path_of_object : Occurrence → List ℕ
  path_of_object o = path_held (first_place_of faces runs o)

  abbrev pub key_of_object : Occurrence → List ℕ
  key_of_object o = key_held (first_place_of faces runs o)

  -- ---- programs

  -- A program has no interpreter (System V gABI, Program Interpreter).
  abbrev pub lacks_interpreter : Occurrence → Bool
  lacks_interpreter p = is_none p.face.interp

  unfoldable pub no_interpreter : Option ClosureStop
  no_interpreter =
      option_map (λ p. NoInterpreter (path_of_object p))
      (find lacks_interpreter (programs_of faces runs))

  -- Its interpreter is no absolute path, or the last part of the path is not on the host list.
  abbrev pub has_odd_interpreter : Occurrence → Bool
  has_odd_interpreter p = not (has_listed_interpreter names p.face.interp)

  unfoldable pub interpreter_unlisted : Option ClosureStop
  interpreter_unlisted =
      option_map (λ p. InterpreterUnlisted (path_of_object p))
      (find has_odd_interpreter (programs_of faces runs))

  -- A load list has a program behind its first object, or a need, an opened name or the file of an
  -- ask goes to a program.
  unfoldable pub program_like : Occurrence → Option Occurrence
  program_like o = find (has_id o.obj.id) (program_files faces runs)

  abbrev pub program_beside : Occurrence → ℕ → Option Occurrence
  program_beside o j = option_and_then program_like (in_same_list o j)

  abbrev pub program_named : Occurrence → Option ℕ → Option Occurrence
  program_named o file = option_and_then (program_beside o) file

  unfoldable pub first_program : Occurrence → List ℕ → Option Occurrence
  first_program o numbers = first_some (map (program_beside o) numbers)

  unfoldable pub first_program_file : Occurrence → Option Occurrence
  first_program_file o = first_some (map (program_named o) (files_named o))

  abbrev pub program_itself : Occurrence → Option Occurrence
  program_itself o = cond (o.number == 0) None (program_like o)

  abbrev pub program_opened : Occurrence → Option Occurrence
  program_opened o = cond (o.number == 0) (first_program o o.run.roots) None

  unfoldable pub program_met : Occurrence → Option Occurrence
  program_met o =
      first_some (program_itself o ∷ first_program o (own_targets o) ∷ program_opened o
      ∷ first_program_file o ∷ [])

  unfoldable pub program_needed : Option ClosureStop
  program_needed =
      option_map (λ p. ProgramNeeded (path_held p))
      (first_some (map program_met (all_objects faces runs)))

  -- ---- host libraries

  abbrev pub hosts_of : List Occurrence
  hosts_of = filter (is_host_library faces runs names) (first_places faces runs)

  -- Two host libraries have one key.
  abbrev pub have_one_key : Occurrence → Occurrence → Bool
  have_one_key b a = bytes_eq (key_held b) (key_held a)

  abbrev pub clash_of_hosts : (List Occurrence × Occurrence) → Option ClosureStop
  clash_of_hosts both =
      option_map (λ a. HostNameClash (key_held both.1) (path_held a) (path_held both.1))
      (find (have_one_key both.1) both.0)

  unfoldable pub host_name_clash : Option ClosureStop
  host_name_clash = first_some (map clash_of_hosts (beside_earlier [] hosts_of))

  -- A host library has a run path.
  abbrev pub has_run_path : Occurrence → Bool
  has_run_path o = is_some o.face.rpath || is_some o.face.runpath

  unfoldable pub host_run_path : Option ClosureStop
  host_run_path = option_map (λ o. HostRpath (path_held o)) (find has_run_path hosts_of)

  -- A need of a host library goes to a bundled library.
  abbrev pub needs_bundled : Occurrence → (List ℕ × ℕ) → Bool
  needs_bundled o need = is_bundled_at faces runs names o need.1

  unfoldable pub need_unlisted : Occurrence → Option ClosureStop
  need_unlisted o =
      cond (is_host_library faces runs names o)
      (option_map (λ need. HostNeedsUnlisted (path_of_object o) need.0)
      (find (needs_bundled o) (own_needs o))) None

  unfoldable pub host_needs_unlisted : Option ClosureStop
  host_needs_unlisted = first_some (map need_unlisted (all_objects faces runs))

  -- A need of a host library is not the key of what it goes to.
  abbrev pub is_other_key : List ℕ → Option Occurrence → Bool
  is_other_key name None = false
  is_other_key name (Some o) = not (bytes_eq name (key_of_object o))

  abbrev pub is_alias : Occurrence → (List ℕ × ℕ) → Bool
  is_alias o need = is_other_key need.0 (in_same_list o need.1)

  unfoldable pub need_alias : Occurrence → Option ClosureStop
  need_alias o =
      cond (is_host_library faces runs names o)
      (option_map (λ need. HostAlias (path_of_object o) need.0)
      (find (is_alias o) (own_needs o))) None

  unfoldable pub host_alias : Option ClosureStop
  host_alias = first_some (map need_alias (all_objects faces runs))

  -- ---- bundled libraries

  -- A need or the file of an ask goes elsewhere than it does at the first place of the object.
  abbrev pub goes_elsewhere : Occurrence → List ℕ → Option Occurrence → Option Occurrence
      → Option ClosureStop
  goes_elsewhere o name (Some a) (Some b) =
      some_where (not (bytes_eq a.obj.id b.obj.id))
      (SplitNeed (path_of_object o) name (path_of_object a) (path_of_object b))
  goes_elsewhere o name _ _ = None

  abbrev pub need_split : Occurrence → Occurrence → (ℕ × (List ℕ × ℕ)) → Option ClosureStop
  need_split first o both =
      goes_elsewhere o both.1.0 (in_same_list first both.0) (in_same_list o both.1.1)

  unfoldable pub first_need_split : Occurrence → Occurrence → Option ClosureStop
  first_need_split first o =
      first_some (map (need_split first o) (zip (own_targets first) (own_needs o)))

  abbrev pub file_split : Occurrence → Occurrence → (Option ℕ × (Ask × Option ℕ))
      → Option ClosureStop
  file_split first o both =
      goes_elsewhere o both.1.0.file (option_and_then (in_same_list first) both.0)
      (option_and_then (in_same_list o) both.1.1)

  unfoldable pub first_file_split : Occurrence → Occurrence → Option ClosureStop
  first_file_split first o =
      first_some (map (file_split first o) (zip (files_named first) (own_asks o)))

  abbrev pub split_from : Occurrence → Occurrence → Option ClosureStop
  split_from first o = first_some (first_need_split first o ∷ first_file_split first o ∷ [])

  unfoldable pub split_at : Occurrence → Option ClosureStop
  split_at o =
      cond (is_bundled faces runs names o) (split_from (first_place_of faces runs o) o) None

  unfoldable pub split_need : Option ClosureStop
  split_need = first_some (map split_at (all_objects faces runs))

  -- ---- all of them

  -- The kinds in order, each with its first place.
  abbrev pub kinds_in_order : List (Option ClosureStop)
  kinds_in_order =
      no_interpreter ∷ interpreter_unlisted ∷ program_needed ∷ host_name_clash ∷ host_run_path
      ∷ host_needs_unlisted ∷ host_alias ∷ split_need ∷ []
