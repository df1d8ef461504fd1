-- Where `host` says that a host meets the record at a place, the programs of the directory that lies
-- there run as they ran where they were packed.
use Rattle.std.specs.Prelude.{ℕ, List, ◌≡◌, Option, Some, slice_get}
use Rattle.app_config.specs.declared.config.Config.{Config}
use Rattle.appdir_build.specs.Outcome.{IsPackage, Package}
use Rattle.build_laws.specs.Sources.{IsSource}
use Rattle.build_plan.specs.Building.{starts_of}
use Rattle.build_runs.specs.declared.programs.Start.{Start}
use Rattle.command_words.specs.declared.commands.Command.{Command}
use Rattle.command_words.specs.declared.commands.Command.TheVariants.{Host as AsksHost}
use Rattle.command_words.specs.declared.commands.Host.{Host}
use Rattle.deliveries.specs.declared.status.Status.{Status}
use Rattle.deliveries.specs.declared.status.Status.TheVariants.{Done}
use Rattle.load_model.specs.World.{World}
use Rattle.packed_programs.specs.Everywhere.{IsPackedAt, RunsOnHost}
use Rattle.appdir_cli.specs.Endings.{Outside}

-- A call of `host` that is done, over a tree that tells its world: where the directory of a build
-- lies at the place, and nothing else, and no directory that is looked in is the place or lies under
-- it, each of its programs runs there.
unfoldable pub CheckedHostsRun : Option Command → Outside → Status → Type 0
CheckedHostsRun asked before status =
    (command : Host) (world source : World) (config : Config) (made : Package)
    → asked ≡ Some (AsksHost command) → status ≡ Done → before.tree.told ≡ Some world
    → (ready : IsPackage source config made) → IsSource source config
    → IsPackedAt world command.place command.dirs made.files
    → (number : ℕ) (start : Start) → slice_get (starts_of config) number ≡ Some start
    → RunsOnHost config ready.building made.files world command.dirs command.place number start
