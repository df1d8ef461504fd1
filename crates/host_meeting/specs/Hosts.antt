-- Hosts, as an opener tells them.
use Rattle.std.specs.Prelude.{ℕ, List, ◌≡◌, Option, Some}
use Rattle.load_model.specs.World.{World}
use Rattle.load_model.specs.declared.setting.Setting.{Setting}

-- A host is a world, and a setting of this machine that looks in these directories.
pub record IsHost (told : Option World) (machine : ℕ) (dirs : List (List ℕ)) (setting : Setting)
    (world : World) : Type 0 where
  pub world_is : told ≡ Some world
  pub machine_is : setting.machine ≡ machine
  pub dirs_are : setting.dirs ≡ dirs

-- The property holds on the host, where its world is told.
abbrev pub OnHost : Option World → ℕ → List (List ℕ) → (Setting → World → Type 0) → Type 0
OnHost told machine dirs P =
    (setting : Setting) (world : World) → IsHost told machine dirs setting world → P setting world
