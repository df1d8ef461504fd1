-- The programs that are packed run at every place of every host that meets the record in their
-- directory as they run where they were packed.
use Rattle.std.specs.Prelude.{ℕ, List, ◌≡◌, All, Option, Some, option_map, slice_get}
use Rattle.app_config.specs.declared.config.Config.{Config}
use Rattle.appdir_build.specs.Outcome.{IsPackage, Package}
use Rattle.build_plan.specs.Building.{starts_of}
use Rattle.build_runs.specs.declared.programs.Start.{Start}
use Rattle.command_words.specs.declared.commands.Command.{Command}
use Rattle.deliveries.specs.Delivery.{filled}
use Rattle.deliveries.specs.declared.status.Status.{Status}
use Rattle.deliveries.specs.declared.status.Status.TheVariants.{Done}
use Rattle.load_model.specs.Escaping.{AreBytes}
use Rattle.load_model.specs.World.{World}
use Rattle.load_model.specs.declared.world.WorldFile.{WorldFile}
use Rattle.packed_programs.specs.Everywhere.{AreImagesKept, ProgramRuns}
use Rattle.ports.specs.Folder.{Folder}
use Rattle.ports.specs.View.{View}
use Rattle.appdir_cli.specs.Endings.{Outside}
use Rattle.appdir_cli.specs.Packing.{IsPackingBy}

-- What the folder has after a command that packs was done in a world.
pub record RunsEverywhere (world : World) (config : Config) (out : List ℕ)
    (before after : View Folder) : Type 0 where
  -- it has the directory that the configuration comes to
  pub made : Package
  pub builds : IsPackage world config made
  pub written : after.told ≡ option_map (filled out made.files) before.told
  -- each program and each bundled library is written with the memory of its file, but for what its
  -- change writes over
  pub images : AreImagesKept world builds.building
  -- the program, and each tool, runs where it was packed, and wherever the directory lies it runs the
  -- same (IsHostFor has the premises, RunsThere what follows)
  pub programs : (number : ℕ) (start : Start) → slice_get (starts_of config) number ≡ Some start
      → ProgramRuns world config builds.building made.files number start

-- So it is where a command that packs is done and the tree tells its world, whose files are bytes: a
-- world is told in numbers, which are not bounded of themselves.
unfoldable pub RunsSameEverywhere : Option Command → Outside → Outside → Status → Type 0
RunsSameEverywhere asked before after status =
    (command : Command) (world : World) (config : Config) (out : List ℕ)
    → asked ≡ Some command → IsPackingBy world command config out → status ≡ Done
    → before.tree.told ≡ Some world
    → All (λ (file : WorldFile). AreBytes file.bytes) world
    → RunsEverywhere world config out before.folder after.folder
