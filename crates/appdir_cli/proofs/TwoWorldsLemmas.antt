-- A program whose whole load list is on the list of names loads the same on every host that carries its copy.
use Rattle.std.proofs.Common.{ℕ, List}
use Rattle.std.specs.Prelude.{All, codes}
use Rattle.path_text.specs.FileName.{IsFileName}
use Rattle.load_model.specs.Faces.{face_or_flaw}
use Rattle.load_model.specs.LoadList.{Loaded}
use Rattle.load_model.specs.World.{World}
use Rattle.load_model.specs.declared.world.WorldFile.{WorldFile}
use Rattle.load_model.proofs.SameNamesLemmas.{loads_alike}
use Rattle.listed_runs.proofs.ByNamesLemmas.{goes_by_names}
use Rattle.app_config.specs.Names.{names_or_default}
use Rattle.app_config.specs.Settings.{default_setting}
use Rattle.appdir_cli.specs.TwoWorlds.{IsPackable, RunsAlike, RunsOnHosts}
use Rattle.command_words.specs.Words.{command_of}
use Rattle.command_words.specs.declared.commands.Quick.{Quick}
use Rattle.command_words.proofs.CommandLemmas.{command_names}

runs_on_hosts : (world : World) (command : Quick) (start : WorldFile) (loaded : Loaded) → All IsFileName (names_or_default command.names) → IsPackable world command start loaded → RunsOnHosts start loaded
runs_on_hosts world command start loaded plain packable host setting place copy machine carried =
    loads_alike face_or_flaw default_setting setting world host command.program loaded packable.ends start place (codes "AppRun") copy packable.list
    (goes_by_names face_or_flaw default_setting world command.program (names_or_default command.names) loaded packable.ends packable.list packable.listed plain) packable.lies machine carried

-- the promise of packing, for the words of a call
pub runs_alike : (words : List (List ℕ)) (world : World) → RunsAlike (command_of words) world
unfolding RunsAlike
runs_alike words world command start loaded asked packable = runs_on_hosts world command start loaded (command_names words command asked) packable
