-- The files that a host has for the libraries of a record.
use Rattle.std.specs.Prelude.{ℕ, List, [], ◌≡◌, ◌++◌, Option, Some, Result, map, slice_get}
use Rattle.std.specs.List.{flat_map}
use Rattle.std.specs.Option.{option_map}
use Rattle.answers.specs.First.{first_some}
use Rattle.byte_view.specs.declared.flaws.Flaw.{Flaw}
use Rattle.lib_closure.specs.Clashes.{beside_earlier}
use Rattle.load_model.specs.Faces.{face_or_flaw}
use Rattle.load_model.specs.LoadList.{Object}
use Rattle.load_model.specs.World.{World}
use Rattle.load_model.specs.declared.faces.Face.{Face}
use Rattle.load_model.specs.declared.setting.Setting.{Setting}
use Rattle.host_list.specs.Meeting.{lib_object, look_difference, own_differences, same_file, version_difference}
use Rattle.host_list.specs.declared.differences.Difference.{Difference}
use Rattle.host_record.specs.declared.records.Record.{Record}
use Rattle.host_meeting.specs.declared.files.FoundFile.{FoundFile}
use Rattle.host_meeting.specs.declared.files.LibFile.{LibFile}
use Rattle.host_meeting.specs.declared.found.FoundLib.{FoundLib}

-- A file that was found, as an object.
abbrev pub object_at : List Face → FoundLib → Option Object
object_at faces f =
    option_map (λ face. record { path = f.path; id = f.id; face = face }) (slice_get faces f.face)

abbrev pub object_found : FoundFile → Object
object_found f = record { path = f.lib.now.path; id = f.lib.now.id; face = f.face.now }

abbrev pub object_of : LibFile → Object
object_of f = record { path = f.path.now; id = f.id.now; face = f.face.now }

-- On this host the libraries of a record, in order, are these files.
abbrev pub HasFiles : Record → List LibFile → Setting → World → Type 0
HasFiles r files setting world =
    map (λ lib. lib_object face_or_flaw setting world r lib.name) r.libs
    ≡ map (λ f. Some (object_of f)) files

-- The property holds on each host that has these files.
abbrev pub WhereFiles : Record → List LibFile → (Setting → World → Type 0) → Type 0
WhereFiles r files P =
    (setting : Setting) (world : World) → HasFiles r files setting world → P setting world

-- What files do not meet that are right one by one, in order, and the first of it.
abbrev pub differences_of_files : (List ℕ → Result Face Flaw) → Setting → World → Record
    → List (Option Difference)
differences_of_files read setting world r =
    map (same_file read setting world r) (beside_earlier [] r.libs)
    ++ (map (version_difference read setting world r) r.versions
    ++ (map (look_difference read setting world r) r.looks
    ++ flat_map (own_differences read setting world r) r.libs))

abbrev pub difference_of_files : (List ℕ → Result Face Flaw) → Setting → World → Record
    → Option Difference
difference_of_files read setting world r = first_some (differences_of_files read setting world r)
