-- The desktop file, the icon and the data files, one after the other.
use Rattle.std.proofs.Common.{◌≡◌, ◌∙◌, sym, ap, refl, subst, ℕ, List, [], ◌∷◌, ◌++◌, Option, Some, None, Ok, Err, map}
use Rattle.answers.specs.First.{first_some}
use Rattle.app_config.specs.declared.config.Config.{Config}
use Rattle.app_config.specs.declared.config.Data.{Data}
use Rattle.appdir_files.specs.Writing.{AreFilesOf, IsFileOf}
use Rattle.appdir_files.specs.declared.items.Item.{Item}
use Rattle.load_model.specs.World.{World}
use Rattle.refusals.specs.declared.file_refusal.FileRefusal.{FileRefusal}
use Rattle.refusals.specs.declared.refusal.Refusal.{Refusal}
use Rattle.extra_files.proofs.CheckLemmas.{files_too}
use Rattle.extra_files.proofs.CopyLemmas.{is_present, launcher_copied}
use Rattle.extra_files.proofs.FirstLemmas.{first_there, none_more, two_none, two_some, zip_both, zip_more}
use Rattle.extra_files.specs.Copying.{AreDataItems, AreLauncherItems, IsCheckedLength, IsDataItem, IsLauncherFault, IsLengthAt, launcher_items}
use Rattle.extra_files.specs.Extras.{AreExtras, copied_data, desktop_files, icon_files}
use Rattle.extra_files.specs.Faults.{IsDesktopFault, IsExtraFault, absence, data_absence, icon_absence, program_names}
use Rattle.std.proofs.Common.{slice_get, take, ◌+◌}

-- ---- data files

pub data_more : (world : World) (files : List Data) (n : ℕ) (data_file : Data) (items pushed : List Item) (item : Item) → slice_get files n ≡ Some data_file → pushed ≡ items ++ (item ∷ []) → AreDataItems world (take n files) (Ok items) → IsDataItem world data_file (Ok item) → AreDataItems world (take (n + 1) files) (Ok pushed)
data_more world files n data_file items pushed item g e before one = (
  none_more (data_absence world) files n data_file before.0 g one.0,
  subst (λ is. AreFilesOf (Some world) is (map (copied_data world) (take (n + 1) files))) (sym e) (zip_more (IsFileOf (Some world)) (copied_data world) items files n item data_file before.1 g one.1),
)

pub data_stops : (world : World) (files : List Data) (n : ℕ) (data_file : Data) (items : List Item) (refusal : Refusal) → slice_get files n ≡ Some data_file → AreDataItems world (take n files) (Ok items) → IsDataItem world data_file (Err refusal) → AreDataItems world files (Err refusal)
data_stops world files n data_file items refusal g before one =
    files_too (λ fault. data_absence world data_file ≡ Some fault) (λ fault. first_some (map (data_absence world) files) ≡ Some fault) refusal
    (λ fault p. first_there (data_absence world) files n data_file fault before.0 g p) one

-- ---- the desktop file and the icon

pub desktop_stops : (world : World) (programs : List (List ℕ)) (desktop icon : List ℕ) (refusal : Refusal) → IsCheckedLength world programs desktop icon (Err refusal) → AreLauncherItems world programs (Some desktop) (Some icon) (Err refusal)
desktop_stops world programs desktop icon refusal h =
    files_too (λ fault. IsDesktopFault world programs (Some desktop) (Some icon) (Some fault)) (λ fault. IsLauncherFault world programs (Some desktop) (Some icon) (Some fault)) refusal
    (λ fault p. record { desk = Some fault; desk_is = p; first = refl }) h

pub icon_stops : (world : World) (programs : List (List ℕ)) (desktop icon : List ℕ) (len : ℕ) (refusal : Refusal) → IsCheckedLength world programs desktop icon (Ok len) → IsLengthAt world icon (Err refusal) → AreLauncherItems world programs (Some desktop) (Some icon) (Err refusal)
icon_stops world programs desktop icon len refusal checked h =
    files_too (λ fault. absence world icon ≡ Some fault) (λ fault. IsLauncherFault world programs (Some desktop) (Some icon) (Some fault)) refusal
    (λ fault p. record { desk = None; desk_is = checked.1; first = sym (ap (λ o. first_some (o ∷ [])) p) }) h

pub both_there : (world : World) (programs : List (List ℕ)) (desktop icon : List ℕ) (desktop_len icon_len : ℕ) (items : List Item) → items ≡ launcher_items desktop desktop_len icon icon_len → IsCheckedLength world programs desktop icon (Ok desktop_len) → IsLengthAt world icon (Ok icon_len) → AreLauncherItems world programs (Some desktop) (Some icon) (Ok items)
both_there world programs desktop icon desktop_len icon_len items e checked there = (
  record { desk = None; desk_is = checked.1; first = sym (ap (λ o. first_some (o ∷ [])) (is_present world icon icon_len there)) },
  subst (λ is. AreFilesOf (Some world) is (icon_files world (Some icon) ++ desktop_files world (Some desktop))) (sym e) (launcher_copied world desktop icon desktop_len icon_len checked.0 there),
)

pub nothing_there : (world : World) (programs : List (List ℕ)) → AreLauncherItems world programs None None (Ok [])
nothing_there world programs = (record { desk = None; desk_is = refl; first = refl }, tt)

-- ---- all of them

pub launcher_stops : (world : World) (config : Config) (refusal : Refusal) → AreLauncherItems world (program_names config) config.desktop config.icon (Err refusal) → AreExtras world config (Err refusal)
launcher_stops world config refusal h =
    files_too (λ fault. IsLauncherFault world (program_names config) config.desktop config.icon (Some fault)) (λ fault. IsExtraFault world config (Some fault)) refusal
    (λ fault p. record { desk = p.desk; desk_is = p.desk_is; first = two_some p.desk (icon_absence world config.icon) (map (data_absence world) config.files) fault p.first }) h

extra_fault : (world : World) (config : Config) (fault : Option FileRefusal) → IsLauncherFault world (program_names config) config.desktop config.icon None → first_some (map (data_absence world) config.files) ≡ fault → IsExtraFault world config fault
extra_fault world config fault p e = record {
  desk = p.desk;
  desk_is = p.desk_is;
  first = sym (two_none p.desk (icon_absence world config.icon) (map (data_absence world) config.files) p.first ∙ e);
}

pub files_stop : (world : World) (config : Config) (launcher : List Item) (refusal : Refusal) → AreLauncherItems world (program_names config) config.desktop config.icon (Ok launcher) → AreDataItems world config.files (Err refusal) → AreExtras world config (Err refusal)
files_stop world config launcher refusal there h =
    files_too (λ fault. first_some (map (data_absence world) config.files) ≡ Some fault) (λ fault. IsExtraFault world config (Some fault)) refusal
    (λ fault p. extra_fault world config (Some fault) there.0 p) h

pub all_there : (world : World) (config : Config) (launcher files items : List Item) → items ≡ files ++ launcher → AreLauncherItems world (program_names config) config.desktop config.icon (Ok launcher) → AreDataItems world config.files (Ok files) → AreExtras world config (Ok items)
all_there world config launcher files items e there data_there = (
  extra_fault world config None there.0 data_there.0,
  subst (λ is. AreFilesOf (Some world) is (map (copied_data world) config.files ++ (icon_files world config.icon ++ desktop_files world config.desktop))) (sym e)
      (zip_both (IsFileOf (Some world)) files launcher (map (copied_data world) config.files) (icon_files world config.icon ++ desktop_files world config.desktop) data_there.1 there.1),
)
