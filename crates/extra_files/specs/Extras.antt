-- What lies in a directory beside programs, libraries and texts about the build: data files, the
-- icon and the desktop file.
use Rattle.std.specs.Prelude.{ℕ, List, [], ◌∷◌, ◌++◌, Bool, false, Option, Some, None, Result, Ok, Err, codes, map}
use Rattle.app_config.specs.declared.config.Config.{Config}
use Rattle.app_config.specs.declared.config.Data.{Data}
use Rattle.appdir_files.specs.Writing.{AreFilesOf}
use Rattle.appdir_files.specs.declared.items.Item.{Item}
use Rattle.load_model.specs.World.{World}
use Rattle.path_text.specs.Path.{base_of}
use Rattle.ports.specs.Reading.{bytes_at}
use Rattle.ports.specs.declared.folders.MemFile.{MemFile}
use Rattle.refusals.specs.declared.file_refusal.FileRefusal.{FileRefusal}
use Rattle.refusals.specs.declared.refusal.Refusal.{Refusal}
use Rattle.refusals.specs.declared.refusal.Refusal.TheVariants.{Config as ConfigRefused, Load, Split, Names, Rewrite, Files, Folder}
use Rattle.extra_files.specs.Faults.{IsExtraFault}

abbrev pub file_with : Bool → List ℕ → List ℕ → MemFile
file_with executable path bytes = record { path = path; executable = executable; bytes = bytes }

module _ (world : World) where
  -- Copies of files of the world.
  abbrev pub copy_at : List ℕ → List ℕ → MemFile
  copy_at path source = file_with false path (bytes_at world source)

  abbrev pub copied_data : Data → MemFile
  copied_data data_file = copy_at data_file.to data_file.from

  abbrev pub data_files : Config → List MemFile
  data_files config = map copied_data config.files

  -- The icon under its own name and as `.DirIcon`, and the desktop file under its own name
  -- (AppDir).
  abbrev pub icon_files : Option (List ℕ) → List MemFile
  icon_files None = []
  icon_files (Some icon) = copy_at (base_of icon) icon ∷ copy_at (codes ".DirIcon") icon ∷ []

  abbrev pub desktop_files : Option (List ℕ) → List MemFile
  desktop_files None = []
  desktop_files (Some desktop) = copy_at (base_of desktop) desktop ∷ []

  -- All of them, in order.
  abbrev pub extra_files : Config → List MemFile
  extra_files config =
      data_files config ++ (icon_files config.icon ++ desktop_files config.desktop)

-- The refusal is of a file, and such.
abbrev pub OfFiles : (FileRefusal → Type 0) → Refusal → Type 0
OfFiles P (ConfigRefused refusal) = ⊥
OfFiles P (Load refusal) = ⊥
OfFiles P (Split refusal) = ⊥
OfFiles P (Names refusal) = ⊥
OfFiles P (Rewrite refusal) = ⊥
OfFiles P (Files refusal) = P refusal
OfFiles P (Folder refusal) = ⊥

-- The items of these files, or the first fault.
abbrev pub AreExtras : World → Config → Result (List Item) Refusal → Type 0
AreExtras world config (Ok items) =
    IsExtraFault world config None × AreFilesOf (Some world) items (extra_files world config)
AreExtras world config (Err refusal) =
    OfFiles (λ fault. IsExtraFault world config (Some fault)) refusal
