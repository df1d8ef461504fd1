-- What `host` says is worth, from how a call ends and from the laws of builds.
use Rattle.std.specs.Prelude.{All}
use Rattle.std.proofs.Common.{ℕ, List, ◌≡◌, ◌∙◌, refl, Option, Some, Ok, slice_get}
use Rattle.app_config.specs.declared.config.Config.{Config}
use Rattle.appdir_build.specs.Outcome.{IsPackage, Package}
use Rattle.build_laws.specs.Sources.{IsSource}
use Rattle.build_plan.specs.Building.{starts_of}
use Rattle.build_runs.specs.declared.programs.Start.{Start}
use Rattle.command_words.specs.Words.{command_of}
use Rattle.command_words.specs.declared.commands.Command.TheVariants.{Host as AsksHost}
use Rattle.command_words.specs.declared.commands.Host.{Host}
use Rattle.command_words.proofs.HostPathLemmas.{command_paths}
use Rattle.deliveries.specs.declared.answer.Answer.{Answer}
use Rattle.deliveries.specs.declared.answer.Answer.TheVariants.{Packs, Says}
use Rattle.deliveries.specs.declared.status.Status.{Status}
use Rattle.host_checks.specs.Hosting.{MeetsRecord}
use Rattle.load_model.specs.World.{World}
use Rattle.packed_programs.specs.Everywhere.{IsPackedAt, RunsOnHost}
use Rattle.path_text.specs.Path.{IsNormalPath}
use Rattle.appdir_cli.specs.CheckedHosts.{CheckedHostsRun}
use Rattle.appdir_cli.specs.Endings.{Ends, IsOutcome, Outside}
use Rattle.appdir_cli.proofs.SameEverywhereLemmas.{ended_done}

meets : (command : Host) (before : Outside) (world : World) (answer : Answer) → before.tree.told ≡ Some world → IsOutcome (AsksHost command) before (Ok answer) → MeetsRecord world command.place command.dirs
meets command before world (Says text) told outcome = (outcome world told).1
meets command before world (Packs whole) told outcome = absurd (outcome world told)

-- The law of hosts that were checked.
abbrev pub CheckedRun : Type 0
CheckedRun = (source host : World) (config : Config) (made : Package) (ready : IsPackage source config made) → IsSource source config → (place : List ℕ) (dirs : List (List ℕ)) → IsNormalPath place → All IsNormalPath dirs → IsPackedAt host place dirs made.files → MeetsRecord host place dirs → (number : ℕ) (start : Start) → slice_get (starts_of config) number ≡ Some start → RunsOnHost config ready.building made.files host dirs place number start

pub checked_hosts_run : CheckedRun → (words : List (List ℕ)) (before after : Outside) (status : Status) → Ends (command_of words) before after status → CheckedHostsRun (command_of words) before status
unfolding CheckedHostsRun
checked_hosts_run run words before after status ends command world source config made is done told ready from lies number start starts =
    let w = ended_done (command_of words) before after status (AsksHost command) is done ends in
    let m = meets command before world w.1.answer told w.1.outcome in
    let p = command_paths words command is in
    run source world config made ready from command.place command.dirs p.place p.dirs lies m number start starts
