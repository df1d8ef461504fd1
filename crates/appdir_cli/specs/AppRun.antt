-- `AppRun` is the last file that is written, so that a folder that has it has all files.
use Rattle.std.specs.Prelude.{ℕ, List, [], ◌≡◌, ◌⊎◌, Option, Some, Ok, take}
use Rattle.app_config.specs.declared.config.Config.{Config}
use Rattle.appdir_build.specs.AppRun.{EndsWithAppRun, HasNoAppRun}
use Rattle.appdir_build.specs.Outcome.{Outcome, Package}
use Rattle.command_words.specs.declared.commands.Command.{Command}
use Rattle.deliveries.specs.declared.status.Status.{Status}
use Rattle.deliveries.specs.declared.status.Status.TheVariants.{Done, PrintFailed}
use Rattle.load_model.specs.World.{World}
use Rattle.ports.specs.Folder.{Folder}
use Rattle.ports.specs.declared.folders.MemFile.{MemFile}
use Rattle.appdir_cli.specs.Endings.{Outside}
use Rattle.appdir_cli.specs.Packing.{IsPacking, IsPackingBy}

-- All files of the directory that a command packs in this world, `AppRun` last.
pub record AreAll (world : World) (command : Command) (files : List MemFile) : Type 0 where
  pub config : Config
  pub out : List ℕ
  pub packs : IsPackingBy world command config out
  pub made : Package
  pub builds : Outcome world config (Ok made)
  pub files_are : files ≡ made.files
  pub app_run : EndsWithAppRun files

-- With Done all files are there. With PrintFailed all are, or none of them is `AppRun`; with any
-- other status none is.
abbrev pub Leaves : World → Command → List MemFile → Status → Type 0
Leaves world command files Done = AreAll world command files
Leaves world command files PrintFailed = AreAll world command files ⊎ HasNoAppRun files
Leaves world command files _ = HasNoAppRun files

-- A folder adds to its finished files behind them alone, so at any moment of a call they are the first
-- of those at its end: all files are there, or none of them is `AppRun`.
abbrev pub AtEachMoment : World → Command → List MemFile → Type 0
AtEachMoment world command files =
    (count : ℕ) → AreAll world command (take count files) ⊎ HasNoAppRun (take count files)

-- So a call that packs leaves a folder that had no file, where tree and folder tell theirs.
unfoldable pub IsAppRunLast : Option Command → Outside → Outside → Status → Type 0
IsAppRunLast asked before after status =
    (command : Command) (world : World) (held kept : Folder)
    → asked ≡ Some command → IsPacking command → before.tree.told ≡ Some world
    → before.folder.told ≡ Some held → held.finished ≡ []
    → after.folder.told ≡ Some kept
    → Leaves world command kept.finished status × AtEachMoment world command kept.finished
