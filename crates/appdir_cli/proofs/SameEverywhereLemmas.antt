-- The packed programs run the same everywhere, from how a call ends and from the laws of builds.
use Rattle.std.proofs.Common.{ℕ, List, [], ◌∷◌, ◌≡◌, ◌∙◌, refl, ap, sym, subst, Option, Some, Ok, map, slice_get}
use Rattle.std.specs.Prelude.{All, IsUtf8, String, option_map}
use Rattle.std.specs.Global.{Global}
use Rattle.std.proofs.lemmas.List.Elements.{All-nil, All-cons, All-head, All-tail}
use Rattle.answers.specs.Told.{WhereTold}
use Rattle.app_config.proofs.DirectoryLemmas.{default_are_normal}
use Rattle.app_config.specs.Names.{names_or_default}
use Rattle.app_config.specs.Ready.{IsNamed, IsNameText, IsReady, OpensNames}
use Rattle.app_config.specs.declared.config.Config.{Config}
use Rattle.app_config.specs.declared.config.Program.{Program}
use Rattle.appdir_build.specs.Outcome.{IsPackage, Package}
use Rattle.build_laws.specs.Sources.{IsSource}
use Rattle.build_plan.specs.Building.{start_of, starts_of}
use Rattle.build_runs.specs.declared.programs.Start.{Start}
use Rattle.command_words.proofs.CommandLemmas.{command_names, command_texts}
use Rattle.command_words.specs.Words.{command_of, texts}
use Rattle.command_words.specs.declared.commands.Command.{Command}
use Rattle.command_words.specs.declared.commands.Command.TheVariants.{Quick as AsksQuick, Build as AsksBuild, Show as AsksShow, Host as AsksHost, Gen as AsksGen}
use Rattle.command_words.specs.declared.commands.Quick.{Quick}
use Rattle.config_files.proofs.ConfiguringLemmas.{configured_ready, one_configuration}
use Rattle.deliveries.specs.Delivery.{IsWhole, filled}
use Rattle.deliveries.specs.declared.answer.Answer.{Answer}
use Rattle.deliveries.specs.declared.answer.Answer.TheVariants.{Packs, Says}
use Rattle.deliveries.specs.declared.answer.Whole.{Whole}
use Rattle.deliveries.specs.declared.status.Status.{Status}
use Rattle.deliveries.specs.declared.status.Status.TheVariants.{Done}
use Rattle.load_model.specs.Escaping.{AreBytes}
use Rattle.load_model.specs.World.{IsWorld, World}
use Rattle.load_model.specs.declared.world.WorldFile.{WorldFile}
use Rattle.packed_programs.specs.Everywhere.{AreImagesKept, ProgramRuns}
use Rattle.path_text.specs.FileName.{IsFileName}
use Rattle.ports.specs.Folder.{Folder}
use Rattle.ports.specs.View.{View}
use Rattle.appdir_cli.specs.ComesTo.{ComesTo}
use Rattle.appdir_cli.specs.Endings.{Ends, IsDone, IsGiven, IsOutcome, Outside}
use Rattle.appdir_cli.specs.Packing.{IsPacked, IsPackingBy, config_of}
use Rattle.appdir_cli.specs.SameEverywhere.{RunsEverywhere, RunsSameEverywhere}
use Rattle.appdir_cli.proofs.AppRunLemmas.{all_one}
use Rattle.appdir_cli.proofs.CommandsThatPackLemmas.{is_packing, packed_by, reads_told, says_nothing}

-- ---- what the command gives

both : {X : Type 0} (P Q : X → Type 0) (xs : List X) → All P xs → All Q xs → All (λ x. P x × Q x) xs
both {X} P Q [] h g = All-nil (λ (x : X). P x × Q x)
both {X} P Q (x ∷ xs) h g =
    All-cons (λ (y : X). P y × Q y) x xs (All-head P x xs h, All-head Q x xs g) (both P Q xs (All-tail P x xs h) (All-tail Q x xs g))

source_alone : (words : List (String Global)) (world : World) (command : Quick) → command_of (texts words) ≡ Some (AsksQuick command) → IsWorld world → All (λ (f : WorldFile). AreBytes f.bytes) world → IsSource world (config_of command)
source_alone words world command asked is bytes =
    record {
      world_is = is;
      bytes = bytes;
      names = both IsFileName IsUtf8 (names_or_default command.names) (command_names (texts words) command asked) (command_texts words command asked);
      opens = All-cons (λ (start : Start). All IsNameText start.opens) (start_of (config_of command).main) [] (All-nil IsNameText) (All-nil (λ (start : Start). All IsNameText start.opens));
      tools = All-nil (λ (tool : Program). IsFileName tool.name);
      dirs = default_are_normal;
    }

starts_opened : (programs : List Program) → All OpensNames programs → All (λ (start : Start). All IsNameText start.opens) (map start_of programs)
starts_opened [] h = All-nil (λ (start : Start). All IsNameText start.opens)
starts_opened (program ∷ programs) h =
    All-cons (λ (start : Start). All IsNameText start.opens) (start_of program) (map start_of programs) (All-head OpensNames program programs h) (starts_opened programs (All-tail OpensNames program programs h))

source_read : (world : World) (config : Config) → IsReady config → IsWorld world → All (λ (f : WorldFile). AreBytes f.bytes) world → IsSource world config
source_read world config ready is bytes =
    record {
      world_is = is;
      bytes = bytes;
      names = ready.names;
      opens = starts_opened (config.main ∷ config.tools) ready.opens;
      tools = λ k d less. (ready.tools k d less).0;
      dirs = ready.dirs;
    }

source : (words : List (String Global)) (world : World) (command : Command) (config : Config) (out : List ℕ) → command_of (texts words) ≡ Some command → IsPackingBy world command config out → IsWorld world → All (λ (f : WorldFile). AreBytes f.bytes) world → IsSource world config
source words world (AsksQuick command) config out asked packs is bytes =
    subst (λ (c : Config). IsSource world c) (sym packs.0) (source_alone words world command asked is bytes)
source words world (AsksBuild command) config out asked packs is bytes =
    source_read world config (configured_ready world command.config config packs.0) is bytes
source words world (AsksShow command) config out asked packs is bytes = absurd packs
source words world (AsksHost command) config out asked packs is bytes = absurd packs
source words world (AsksGen command) config out asked packs is bytes = absurd packs

-- A command packs by one configuration in a world, into one place.
one_packing : (world : World) (command : Command) (config other : Config) (out place : List ℕ) → IsPackingBy world command config out → IsPackingBy world command other place → (config ≡ other) × (out ≡ place)
one_packing world (AsksQuick command) config other out place a b = (a.0 ∙ sym b.0, a.1 ∙ sym b.1)
one_packing world (AsksBuild command) config other out place a b = (one_configuration world command.config config other a.0 b.0, a.1 ∙ sym b.1)
one_packing world (AsksShow command) config other out place a b = absurd a
one_packing world (AsksHost command) config other out place a b = absurd a
one_packing world (AsksGen command) config other out place a b = absurd a

-- ---- the laws of packages

abbrev pub ProgramsRun : Type 0
ProgramsRun = (world : World) (config : Config) (made : Package) (ready : IsPackage world config made) → IsSource world config → (number : ℕ) (start : Start) → slice_get (starts_of config) number ≡ Some start → ProgramRuns world config ready.building made.files number start

abbrev pub KeepsImages : Type 0
KeepsImages = (world : World) (config : Config) (made : Package) (ready : IsPackage world config made) → IsSource world config → AreImagesKept world ready.building

-- ---- how a call ends

module _ (run : ProgramsRun) (keep : KeepsImages) (world : World) (config : Config) (out : List ℕ) (from : IsSource world config) where
  of_package : (made : Package) → IsPackage world config made → (before after : View Folder) → after.told ≡ option_map (filled out made.files) before.told → RunsEverywhere world config out before after
  of_package made ready before after written =
      record {
        made = made;
        builds = ready;
        written = written;
        images = keep world config made ready from;
        programs = run world config made ready from;
      }

  of_whole : (whole : Whole) (before after : View Folder) → IsPacked world config out whole → IsWhole (Some world) whole before after → RunsEverywhere world config out before after
  of_whole whole before after packed given =
      let files : given.files ≡ packed.made.files = all_one world whole.items given.files packed.made.files given.each packed.files in
      of_package packed.made packed.builds before after
      (given.written ∙ ap (λ p. option_map (filled p given.files) before.told) packed.place
      ∙ ap (λ fs. option_map (filled out fs) before.told) files)

module _ (run : ProgramsRun) (keep : KeepsImages) (world : World) (command : Command) (config : Config) (out : List ℕ) (packs : IsPackingBy world command config out) (from : IsSource world config) (before after : Outside) (told : before.tree.told ≡ Some world) where
  comes : (answer : Answer) → IsOutcome command before (Ok answer) → ComesTo world command (Ok answer)
  comes answer outcome = outcome world (reads_told command (is_packing world command config out packs) before.tree.told ∙ told)

  of_answer : (answer : Answer) → IsOutcome command before (Ok answer) → IsGiven answer before.tree.told before.folder after.folder → RunsEverywhere world config out before.folder after.folder
  of_answer (Says text) outcome given = absurd (says_nothing world command (is_packing world command config out packs) text (comes (Says text) outcome))
  of_answer (Packs whole) outcome given =
      let p = packed_by world command (is_packing world command config out packs) whole (comes (Packs whole) outcome) in
      let same = one_packing world command p.config config p.out out p.by packs in
      of_whole run keep world config out from whole before.folder after.folder
      (subst (λ (o : List ℕ). IsPacked world config o whole) same.1 (subst (λ (c : Config). IsPacked world c p.out whole) same.0 p.packed))
      (subst (λ (t : Option World). IsWhole t whole before.folder after.folder) told given)

  of_done : (text : List ℕ) → IsDone command before after text → RunsEverywhere world config out before.folder after.folder
  of_done text done = of_answer done.answer done.outcome done.given

pub ended_done : (asked : Option Command) (before after : Outside) (status : Status) (command : Command) → asked ≡ Some command → status ≡ Done → Ends asked before after status → Ends (Some command) before after Done
ended_done asked before after status command is done ends =
    subst (λ (s : Status). Ends (Some command) before after s) done (subst (λ (a : Option Command). Ends a before after status) is ends)

pub same_everywhere : ProgramsRun → KeepsImages → (words : List (String Global)) (before after : Outside) (status : Status) → WhereTold before.tree.told IsWorld → Ends (command_of (texts words)) before after status → RunsSameEverywhere (command_of (texts words)) before after status
unfolding RunsSameEverywhere
same_everywhere run keep words before after status tells ends command world config out asked packs done told bytes =
    let w = ended_done (command_of (texts words)) before after status command asked done ends in
    of_done run keep world command config out packs (source words world command config out asked packs (tells world told) bytes) before after told w.0 w.1
