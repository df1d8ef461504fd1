-- What must hold of a place in a world, so that the programs of a build run the same there.
use Rattle.std.specs.Prelude.{ℕ, List, ◌≡◌, ◌≢◌, All, Some, slice_get}
use Rattle.app_config.specs.declared.config.Config.{Config}
use Rattle.build_laws.specs.Renaming.{as_items}
use Rattle.build_plan.specs.Building.{Building}
use Rattle.build_texts.specs.Texts.{record_in}
use Rattle.host_list.specs.Meeting.{HostMeets}
use Rattle.load_model.specs.Faces.{face_or_flaw}
use Rattle.load_model.specs.World.{World}
use Rattle.load_model.specs.declared.setting.Setting.{Setting}
use Rattle.moved_runs.specs.Placed.{IsPlaced, IsUnder}
use Rattle.path_text.specs.Path.{IsNormalPath}
use Rattle.ports.specs.declared.folders.MemFile.{MemFile}

pub record IsHome (world : World) (config : Config) (b : Building) (setting : Setting)
    (place : List ℕ) (files : List MemFile) : Type 0 where
  -- so that a directory joined with a name tells which directory it was
  pub place_normal : IsNormalPath place
  pub dirs_normal : All IsNormalPath setting.dirs
  -- so that files for this machine are for that one
  pub machine : setting.machine ≡ config.setting.machine
  -- so that each written file is found, no name of a host library finds a file of the directory, and
  -- no written file is taken for another
  pub placed : IsPlaced world place (as_items files)
  -- so that no listed directory has a written file
  pub apart : (i : ℕ) (dir : List ℕ) → slice_get setting.dirs i ≡ Some dir
      → (dir ≢ place) × (IsUnder place dir → ⊥)
  -- so that host libraries are found, and answer as here
  pub meets : HostMeets face_or_flaw setting world (record_in b)
