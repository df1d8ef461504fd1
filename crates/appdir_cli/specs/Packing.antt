-- What packing comes to: the directory of a configuration at a place, or the first refusal.
use Rattle.std.specs.Prelude.{ℕ, List, ◌≡◌, ◌⊎◌, Some, Result, Ok, Err, length}
use Rattle.app_config.specs.Configs.{quick_config_of}
use Rattle.app_config.specs.declared.config.Config.{Config}
use Rattle.appdir_build.specs.Outcome.{Outcome, Package}
use Rattle.appdir_files.specs.Writing.{AreFilesOf}
use Rattle.command_words.specs.declared.commands.Build.{Build}
use Rattle.command_words.specs.declared.commands.Command.{Command}
use Rattle.command_words.specs.declared.commands.Command.TheVariants.{Quick as AsksQuick, Build as AsksBuild, Show as AsksShow, Host as AsksHost, Gen as AsksGen}
use Rattle.command_words.specs.declared.commands.Quick.{Quick}
use Rattle.config_files.specs.Configuring.{IsConfigured, IsUnconfigured}
use Rattle.deliveries.specs.declared.answer.Answer.{Answer}
use Rattle.deliveries.specs.declared.answer.Answer.TheVariants.{Says, Packs as PacksFiles}
use Rattle.deliveries.specs.declared.answer.Whole.{Whole}
use Rattle.load_model.specs.World.{World}
use Rattle.refusals.specs.Lines.{done_line}
use Rattle.refusals.specs.declared.refusal.Refusal.{Refusal}

-- The files of the directory, where they are written, and the line that says how many.
pub record IsPacked (world : World) (config : Config) (out : List ℕ) (whole : Whole) : Type 0 where
  pub made : Package
  pub builds : Outcome world config (Ok made)
  pub place : whole.place ≡ out
  pub files : AreFilesOf (Some world) whole.items made.files
  pub line : whole.line ≡ done_line (length made.files) made.bundled made.hosts

abbrev pub Packs : World → Config → List ℕ → Result Answer Refusal → Type 0
Packs world config out (Ok (Says text)) = ⊥
Packs world config out (Ok (PacksFiles whole)) = IsPacked world config out whole
Packs world config out (Err refusal) = Outcome world config (Err refusal)

-- `quick` packs by the configuration of a program alone.
abbrev pub config_of : Quick → Config
config_of command = quick_config_of command.program command.names

abbrev pub PacksAlone : World → Quick → Result Answer Refusal → Type 0
PacksAlone world command outcome = Packs world (config_of command) command.out outcome

-- `build` packs by the configuration that lies at its path.
pub record PacksAsRead (world : World) (command : Build) (outcome : Result Answer Refusal) : Type 0
  where
    pub config : Config
    pub read : IsConfigured world command.config config
    pub packs : Packs world config command.out outcome

pub record IsUnread (world : World) (command : Build) (outcome : Result Answer Refusal) : Type 0
  where
    pub refusal : Refusal
    pub unread : IsUnconfigured world command.config refusal
    pub outcome_is : outcome ≡ Err refusal

abbrev pub PacksBy : World → Build → Result Answer Refusal → Type 0
PacksBy world command outcome = PacksAsRead world command outcome ⊎ IsUnread world command outcome

-- What a command packs by in a world, and where.
abbrev pub IsPackingBy : World → Command → Config → List ℕ → Type 0
IsPackingBy world (AsksQuick command) config out =
    (config ≡ config_of command) × (out ≡ command.out)
IsPackingBy world (AsksBuild command) config out =
    IsConfigured world command.config config × (out ≡ command.out)
IsPackingBy world (AsksShow command) config out = ⊥
IsPackingBy world (AsksHost command) config out = ⊥
IsPackingBy world (AsksGen command) config out = ⊥

-- The command packs.
abbrev pub IsPacking : Command → Type 0
IsPacking (AsksQuick command) = Unit {0}
IsPacking (AsksBuild command) = Unit {0}
IsPacking (AsksShow command) = ⊥
IsPacking (AsksHost command) = ⊥
IsPacking (AsksGen command) = ⊥
