-- When a host meets a record: a list of demands in order, and the first that is not met. The files
-- of a host are a world, with the directories in which a library is looked for.
use Rattle.std.specs.Prelude.{ℕ, zero, suc, List, [], ◌∷◌, ◌≡◌, ◌++◌, Bool, false, true, not, ◌&&◌, ◌||◌, Option, Some, None, Result, Ok, Err, is_none, is_some, length, map, max, slice_get}
use Rattle.std.specs.List.{find, flat_map, list_any}
use Rattle.std.specs.Option.{option_and_then, option_eq, option_map}
use Rattle.std.specs.Str.{bytes_eq}
use Rattle.answers.specs.First.{first_some, some_where}
use Rattle.byte_view.specs.declared.flaws.Flaw.{Flaw}
use Rattle.load_model.specs.LoadList.{Object, up_to}
use Rattle.load_model.specs.SameNames.{listed_decision}
use Rattle.load_model.specs.VersionCheck.{has_defined}
use Rattle.load_model.specs.World.{World, file_at}
use Rattle.load_model.specs.declared.asks.Ask.{Ask}
use Rattle.load_model.specs.declared.faces.Face.{Face}
use Rattle.load_model.specs.declared.refusals.LoadRefusal.{LoadRefusal}
use Rattle.load_model.specs.declared.refusals.LoadRefusal.TheVariants.{Damaged}
use Rattle.load_model.specs.declared.setting.Setting.{Setting}
use Rattle.lib_closure.specs.Clashes.{beside_earlier}
use Rattle.host_record.specs.Grammar.{lib_name_at}
use Rattle.host_record.specs.Said.{lib_names}
use Rattle.host_record.specs.declared.records.Answer.{Answer}
use Rattle.host_record.specs.declared.records.Answer.TheVariants.{Nothing, Plain, Version}
use Rattle.host_record.specs.declared.records.Look.{Look}
use Rattle.host_record.specs.declared.records.RecLib.{RecLib}
use Rattle.host_record.specs.declared.records.RecVersion.{RecVersion}
use Rattle.host_record.specs.declared.records.Record.{Record}
use Rattle.host_list.specs.Answers.{answer_in_face, class_of}
use Rattle.host_list.specs.declared.differences.Difference.{Difference}
use Rattle.host_list.specs.declared.differences.Difference.TheVariants.{NoInterp, NoLib, DamagedLib, SonameDiffers, HasRunPath, NeedsDiffer, SameFile, NoVersion, AnswerDiffers, OwnVersion}

-- The least place at which two lists of names differ.
abbrev pub differ_at : List (List ℕ) → List (List ℕ) → ℕ → Bool
differ_at xs ys k = not (option_eq bytes_eq (slice_get xs k) (slice_get ys k))

abbrev pub first_differing : List (List ℕ) → List (List ℕ) → Option ℕ
first_differing xs ys = find (differ_at xs ys) (up_to (max (length xs) (length ys)))

abbrev pub is_answer : Answer → Answer → Bool
is_answer Nothing Nothing = true
is_answer Plain Plain = true
is_answer (Version a) (Version b) = bytes_eq a b
is_answer a b = false

-- The recorded needs of the library of this name.
abbrev pub needs_of_lib : Option RecLib → List (List ℕ)
needs_of_lib None = []
needs_of_lib (Some lib) = lib.needs

abbrev pub recorded_needs : List RecLib → List ℕ → List (List ℕ)
recorded_needs libs name = needs_of_lib (find (λ lib. bytes_eq lib.name name) libs)

-- The name is reached from another by at most so many recorded needs.
unfoldable pub is_reached : List RecLib → ℕ → List ℕ → List ℕ → Bool
is_reached libs zero name from = bytes_eq from name
is_reached libs (suc n) name from =
    bytes_eq from name || list_any (is_reached libs n name) (recorded_needs libs from)

module _ (read : List ℕ → Result Face Flaw) (setting : Setting) (world : World) (r : Record) where
  -- The file of a library: the first in the listed directories that is an object or damaged.
  abbrev pub lib_decision : List ℕ → Option (Result Object LoadRefusal)
  lib_decision name = listed_decision read setting world name

  abbrev pub object_in : Option (Result Object LoadRefusal) → Option Object
  object_in None = None
  object_in (Some (Err refusal)) = None
  object_in (Some (Ok o)) = Some o

  abbrev pub lib_object : List ℕ → Option Object
  lib_object name = object_in (lib_decision name)

  -- The name of the library of this number.
  abbrev pub name_of_lib : ℕ → List ℕ
  name_of_lib number = lib_name_at (lib_names r.libs) number

  -- ---- 1. Each interpreter is a file.

  abbrev pub interp_difference : List ℕ → Option Difference
  interp_difference path = some_where (is_none (file_at world path)) (NoInterp path)

  -- ---- 2. Each library has a file, which is an object. Its soname is the library's name or
  -- absent, it has no run path, and its needs are the recorded ones.

  abbrev pub soname_difference : List ℕ → Option (List ℕ) → Option Difference
  soname_difference name None = None
  soname_difference name (Some soname) =
      some_where (not (bytes_eq soname name)) (SonameDiffers name soname)

  abbrev pub object_difference : RecLib → Face → Option Difference
  object_difference lib face =
      first_some (soname_difference lib.name face.soname
      ∷ some_where (is_some face.rpath || is_some face.runpath) (HasRunPath lib.name)
      ∷ option_map (NeedsDiffer lib.name) (first_differing lib.needs face.needs) ∷ [])

  abbrev pub damage : LoadRefusal → Option Difference
  damage (Damaged path flaw) = Some (DamagedLib path flaw)
  damage refusal = None

  abbrev pub file_difference : RecLib → Option (Result Object LoadRefusal) → Option Difference
  file_difference lib None = Some (NoLib lib.name)
  file_difference lib (Some (Err refusal)) = damage refusal
  file_difference lib (Some (Ok o)) = object_difference lib o.face

  abbrev pub lib_difference : RecLib → Option Difference
  lib_difference lib = file_difference lib (lib_decision lib.name)

  -- ---- 3. Libraries of different names are different files.

  abbrev pub are_one_file : Option Object → Option Object → Bool
  are_one_file (Some a) (Some b) = bytes_eq a.id b.id
  are_one_file a b = false

  abbrev pub is_same_file : RecLib → RecLib → Bool
  is_same_file b a = are_one_file (lib_object a.name) (lib_object b.name)

  abbrev pub same_file : (List RecLib × RecLib) → Option Difference
  same_file beside =
      option_map (λ a. SameFile a.name beside.1.name) (find (is_same_file beside.1) beside.0)

  -- ---- 4. Each library has the versions that are asked of it, or no definitions at all.

  abbrev pub lacks_version : List ℕ → Option Object → Bool
  lacks_version version None = false
  lacks_version version (Some o) = not (has_defined version o.face.defs)

  abbrev pub version_difference : RecVersion → Option Difference
  version_difference v =
      some_where (lacks_version v.version (lib_object (name_of_lib v.lib)))
      (NoVersion (name_of_lib v.lib) v.version)

  -- ---- 5. Each look has the recorded answer.

  abbrev pub answer_difference : Look → Answer → Option Difference
  answer_difference l found =
      some_where (not (is_answer l.answer found))
      (AnswerDiffers (name_of_lib l.lib) l.name l.version (class_of l.call) l.answer found)

  abbrev pub look_difference : Look → Option Difference
  look_difference l =
      option_and_then (λ o. answer_difference l (answer_in_face o.face l.name l.version l.call))
      (lib_object (name_of_lib l.lib))

  -- ---- 6. What a library itself asks, but for weak asks, it asks of itself or of a library that
  -- it reaches by recorded needs, and that one has the version, or no definitions at all.

  abbrev pub own_difference : RecLib → Ask → Option Difference
  own_difference lib ask =
      some_where
      (not ask.weak && (not (is_reached r.libs (length r.libs) ask.file lib.name)
      || lacks_version ask.name (lib_object ask.file)))
      (OwnVersion lib.name ask.file ask.name)

  abbrev pub asks_of_lib : Option Object → List Ask
  asks_of_lib None = []
  asks_of_lib (Some o) = o.face.asks

  abbrev pub own_differences : RecLib → List (Option Difference)
  own_differences lib = map (own_difference lib) (asks_of_lib (lib_object lib.name))

  -- ---- all of them

  abbrev pub differences_in_order : List (Option Difference)
  differences_in_order =
      map interp_difference r.interps
      ++ (map lib_difference r.libs
      ++ (map same_file (beside_earlier [] r.libs)
      ++ (map version_difference r.versions
      ++ (map look_difference r.looks ++ flat_map own_differences r.libs))))

  -- The first demand that the host does not meet.
  unfoldable pub first_difference : Option Difference
  first_difference = first_some differences_in_order

  -- The host meets the record.
  abbrev pub HostMeets : Type 0
  HostMeets = first_difference ≡ None
