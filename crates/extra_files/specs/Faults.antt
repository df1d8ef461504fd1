-- The first fault of the desktop file, the icon and the data files.
use Rattle.std.specs.Prelude.{ℕ, List, ◌∷◌, ◌≡◌, codes, Option, Some, None, is_none, option_map, Result, Ok, Err, map}
use Rattle.answers.specs.First.{first_some, some_where}
use Rattle.app_config.specs.declared.config.Config.{Config}
use Rattle.app_config.specs.declared.config.Data.{Data}
use Rattle.desk_entry.specs.Checking.{check_fault}
use Rattle.desk_entry.specs.Entries.{exec_word, value_of}
use Rattle.desk_entry.specs.Lines.{text_or_none}
use Rattle.desk_entry.specs.Reading.{Reads}
use Rattle.desk_entry.specs.declared.checks.CheckFault.{CheckFault}
use Rattle.desk_entry.specs.declared.checks.CheckFault.TheVariants.{MissingKey, ExecUnknown, IconDiffers}
use Rattle.desk_entry.specs.declared.entries.Entries.{Entries}
use Rattle.desk_entry.specs.declared.entries.Pair.{Pair}
use Rattle.desk_entry.specs.declared.reading.DeskFault.{DeskFault}
use Rattle.desk_entry.specs.declared.reading.DeskFault.TheVariants.{NotUtf8, Line as AtLine, NoGroup, TwoGroups, TwoKeys, NoMemory}
use Rattle.load_model.specs.World.{World, file_at}
use Rattle.load_model.specs.declared.world.WorldFile.{WorldFile}
use Rattle.refusals.specs.declared.file_refusal.FileRefusal.{FileRefusal}
use Rattle.refusals.specs.declared.file_refusal.FileRefusal.TheVariants.{FileAbsent, DeskNotUtf8, DeskLine, NoGroup as LacksGroup, TwoGroups as HasTwoGroups, TwoKeys as HasTwoKeys, DeskMissingKey, ExecUnknown as UnknownExec, IconDiffers as OtherIcon}
use Rattle.extra_files.specs.Stems.{stem_of}

-- ---- absence

-- No file is at the path.
abbrev pub absence : World → List ℕ → Option FileRefusal
absence world path = some_where (is_none (file_at world path)) (FileAbsent path)

abbrev pub icon_absence : World → Option (List ℕ) → Option FileRefusal
icon_absence world None = None
icon_absence world (Some icon) = absence world icon

abbrev pub data_absence : World → Data → Option FileRefusal
data_absence world data_file = absence world data_file.from

-- ---- the text of a desktop file

-- A text is no desktop entry file. Want of memory says nothing of a text.
abbrev pub IsReadingFault : DeskFault → Option FileRefusal → Type 0
IsReadingFault NotUtf8 fault = fault ≡ Some DeskNotUtf8
IsReadingFault (AtLine n) fault = fault ≡ Some (DeskLine n)
IsReadingFault NoGroup fault = fault ≡ Some LacksGroup
IsReadingFault (TwoGroups n) fault = fault ≡ Some (HasTwoGroups n)
IsReadingFault (TwoKeys n) fault = fault ≡ Some (HasTwoKeys n)
IsReadingFault NoMemory fault = ⊥

-- Its first group does not say what is demanded: a key is missing, `Exec` names this word, `Icon`
-- has this value.
abbrev pub refusal_of_check : List Pair → CheckFault → FileRefusal
refusal_of_check pairs (MissingKey key) = DeskMissingKey key
refusal_of_check pairs ExecUnknown = UnknownExec (text_or_none (exec_word pairs))
refusal_of_check pairs IconDiffers = OtherIcon (text_or_none (value_of pairs (codes "Icon")))

-- The first fault of what a text is read as, where programs of these names and an icon of this stem
-- are demanded.
abbrev pub IsFaultOfReading : List (List ℕ) → List ℕ → Result Entries DeskFault
    → Option FileRefusal → Type 0
IsFaultOfReading programs stem (Ok entries) fault =
    fault ≡ option_map (refusal_of_check entries.pairs) (check_fault entries.pairs programs stem)
IsFaultOfReading programs stem (Err unread) fault = IsReadingFault unread fault

-- The first fault of a text: it is no desktop entry file, or its first group does not say what is
-- demanded.
pub record HasEntryFault (text : List ℕ) (programs : List (List ℕ)) (stem : List ℕ)
    (fault : Option FileRefusal) : Type 0 where
  pub reading : Result Entries DeskFault
  pub reads : Reads text reading
  pub told : IsFaultOfReading programs stem reading fault

-- ---- the desktop file

-- The first fault of what lies at its path.
abbrev pub IsFileFault : Option WorldFile → List ℕ → List (List ℕ) → List ℕ
    → Option FileRefusal → Type 0
IsFileFault None path programs stem fault = fault ≡ Some (FileAbsent path)
IsFileFault (Some file) path programs stem fault = HasEntryFault file.bytes programs stem fault

-- The same of the desktop file of a configuration, where there is one. An icon is given with it.
abbrev pub IsDesktopFault : World → List (List ℕ) → Option (List ℕ) → Option (List ℕ)
    → Option FileRefusal → Type 0
IsDesktopFault world programs None icon fault = fault ≡ None
IsDesktopFault world programs (Some desktop) None fault = ⊥
IsDesktopFault world programs (Some desktop) (Some icon) fault =
    IsFileFault (file_at world desktop) desktop programs (stem_of icon) fault

-- ---- all of them

-- The names of the programs, the main one first.
abbrev pub program_names : Config → List (List ℕ)
program_names config = config.main.name ∷ map (λ t. t.name) config.tools

-- The first fault: of the desktop file, then the icon's absence, then that of data files in order.
pub record IsExtraFault (world : World) (config : Config) (fault : Option FileRefusal) : Type 0
  where
    pub desk : Option FileRefusal
    pub desk_is : IsDesktopFault world (program_names config) config.desktop config.icon desk
    pub first : fault
        ≡ first_some (desk ∷ icon_absence world config.icon ∷ map (data_absence world) config.files)
