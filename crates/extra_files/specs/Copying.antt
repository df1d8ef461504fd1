-- What the steps answer by which files are checked and copied.
use Rattle.std.specs.Prelude.{ℕ, List, [], ◌∷◌, ◌++◌, ◌≡◌, false, codes, Option, Some, None, Result, Ok, Err, map}
use Rattle.answers.specs.First.{first_some}
use Rattle.app_config.specs.declared.config.Data.{Data}
use Rattle.appdir_files.specs.Writing.{AreFilesOf, HasLength, IsFileOf}
use Rattle.appdir_files.specs.declared.items.Body.TheVariants.{Copy}
use Rattle.appdir_files.specs.declared.items.Item.{Item}
use Rattle.build_plan.specs.declared.stops.BuildStop.{BuildStop}
use Rattle.build_plan.specs.declared.stops.BuildStop.TheVariants.{Refused, Read, NoMemory}
use Rattle.desk_entry.specs.declared.reading.DeskFault.{DeskFault}
use Rattle.desk_entry.specs.declared.reading.DeskFault.TheVariants.{NotUtf8, Line as AtLine, NoGroup, TwoGroups, TwoKeys, NoMemory as NoMemoryReading}
use Rattle.load_model.specs.World.{World}
use Rattle.path_text.specs.Path.{base_of}
use Rattle.refusals.specs.declared.file_refusal.FileRefusal.{FileRefusal}
use Rattle.refusals.specs.declared.file_refusal.FileRefusal.TheVariants.{DeskNotUtf8, DeskLine, NoGroup as LacksGroup, TwoGroups as HasTwoGroups, TwoKeys as HasTwoKeys}
use Rattle.refusals.specs.declared.refusal.Refusal.{Refusal}
use Rattle.refusals.specs.declared.refusal.Refusal.TheVariants.{Files}
use Rattle.extra_files.specs.Extras.{OfFiles, copied_data, desktop_files, icon_files}
use Rattle.extra_files.specs.Faults.{HasEntryFault, IsDesktopFault, absence, data_absence, icon_absence}

-- The length of the file at a path, or that there is none.
abbrev pub IsLengthAt : World → List ℕ → Result ℕ Refusal → Type 0
IsLengthAt world path (Ok len) = HasLength world path len
IsLengthAt world path (Err refusal) =
    OfFiles (λ fault. absence world path ≡ Some fault) refusal

-- ---- data files

abbrev pub IsDataItem : World → Data → Result Item Refusal → Type 0
IsDataItem world data_file (Ok item) =
    (data_absence world data_file ≡ None)
    × IsFileOf (Some world) item (copied_data world data_file)
IsDataItem world data_file (Err refusal) =
    OfFiles (λ fault. data_absence world data_file ≡ Some fault) refusal

abbrev pub AreDataItems : World → List Data → Result (List Item) Refusal → Type 0
AreDataItems world files (Ok items) =
    (first_some (map (data_absence world) files) ≡ None)
    × AreFilesOf (Some world) items (map (copied_data world) files)
AreDataItems world files (Err refusal) =
    OfFiles (λ fault. first_some (map (data_absence world) files) ≡ Some fault) refusal

-- ---- the desktop file

-- A text has no fault, or its first.
abbrev pub IsEntryCheck : List ℕ → List (List ℕ) → List ℕ → Result (Unit {0}) Refusal → Type 0
IsEntryCheck text programs stem (Ok u) = HasEntryFault text programs stem None
IsEntryCheck text programs stem (Err refusal) =
    OfFiles (λ fault. HasEntryFault text programs stem (Some fault)) refusal

-- The same over a text that is at hand; want of memory is free.
abbrev pub IsTextCheck : List ℕ → List (List ℕ) → List ℕ → Result (Unit {0}) BuildStop → Type 0
IsTextCheck text programs stem (Ok u) = HasEntryFault text programs stem None
IsTextCheck text programs stem (Err (Refused refusal)) =
    OfFiles (λ fault. HasEntryFault text programs stem (Some fault)) refusal
IsTextCheck text programs stem (Err Read) = ⊥
IsTextCheck text programs stem (Err NoMemory) = Unit {0}

-- Why reading it ends a build.
abbrev pub stop_of_reading : DeskFault → BuildStop
stop_of_reading NotUtf8 = Refused (Files DeskNotUtf8)
stop_of_reading (AtLine n) = Refused (Files (DeskLine n))
stop_of_reading NoGroup = Refused (Files LacksGroup)
stop_of_reading (TwoGroups n) = Refused (Files (HasTwoGroups n))
stop_of_reading (TwoKeys n) = Refused (Files (HasTwoKeys n))
stop_of_reading NoMemoryReading = NoMemory

-- The length of a desktop file without a fault, or its first.
abbrev pub IsCheckedLength : World → List (List ℕ) → List ℕ → List ℕ → Result ℕ Refusal → Type 0
IsCheckedLength world programs desktop icon (Ok len) =
    HasLength world desktop len × IsDesktopFault world programs (Some desktop) (Some icon) None
IsCheckedLength world programs desktop icon (Err refusal) =
    OfFiles (λ fault. IsDesktopFault world programs (Some desktop) (Some icon) (Some fault)) refusal

-- ---- the desktop file and the icon

-- The first fault of both.
pub record IsLauncherFault (world : World) (programs : List (List ℕ))
    (desktop icon : Option (List ℕ)) (fault : Option FileRefusal) : Type 0 where
  pub desk : Option FileRefusal
  pub desk_is : IsDesktopFault world programs desktop icon desk
  pub first : fault ≡ first_some (desk ∷ icon_absence world icon ∷ [])

abbrev pub AreLauncherItems : World → List (List ℕ) → Option (List ℕ) → Option (List ℕ)
    → Result (List Item) Refusal → Type 0
AreLauncherItems world programs desktop icon (Ok items) =
    IsLauncherFault world programs desktop icon None
    × AreFilesOf (Some world) items (icon_files world icon ++ desktop_files world desktop)
AreLauncherItems world programs desktop icon (Err refusal) =
    OfFiles (λ fault. IsLauncherFault world programs desktop icon (Some fault)) refusal

-- A copy that may not be run.
abbrev pub copy_item : List ℕ → List ℕ → ℕ → Item
copy_item place from len = record { path = place; executable = false; body = Copy from len }

abbrev pub launcher_items : List ℕ → ℕ → List ℕ → ℕ → List Item
launcher_items desktop desktop_len icon icon_len =
    copy_item (base_of icon) icon icon_len
    ∷ copy_item (codes ".DirIcon") icon icon_len
    ∷ copy_item (base_of desktop) desktop desktop_len ∷ []
