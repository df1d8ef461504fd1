-- A packed program on another host: what must hold of the host, and what a loader then loads there.
use Rattle.std.specs.Prelude.{ℕ, List, [], ◌≡◌, true, Option, Some, codes}
use Rattle.byte_view.specs.declared.constants.TheConstants.{EM_X86_64}
use Rattle.load_model.specs.Faces.{face_or_flaw}
use Rattle.load_model.specs.LoadList.{Loaded}
use Rattle.load_model.specs.SameNames.{IsCarried, LoadsAlike}
use Rattle.load_model.specs.World.{World, file_at}
use Rattle.load_model.specs.declared.setting.Setting.{Setting}
use Rattle.load_model.specs.declared.world.WorldFile.{WorldFile}
use Rattle.listed_runs.specs.Fitting.{is_all_listed}
use Rattle.app_config.specs.Names.{names_or_default}
use Rattle.app_config.specs.Settings.{default_setting}
use Rattle.load_model.specs.Loads.{IsLoadList}
use Rattle.command_words.specs.declared.commands.Command.{Command}
use Rattle.command_words.specs.declared.commands.Command.TheVariants.{Quick as AsksQuick}
use Rattle.command_words.specs.declared.commands.Quick.{Quick}

-- A program that can be packed in a world, with its file and its load list there.
pub record IsPackable (world : World) (command : Quick) (start : WorldFile) (loaded : Loaded)
    : Type 0 where
  pub lies : file_at world command.program ≡ Some start
  pub ends : List Loaded
  pub list : IsLoadList face_or_flaw default_setting world command.program [] loaded ends
  pub listed : is_all_listed (names_or_default command.names) loaded ≡ true

-- On every host that carries a copy of the program, named `AppRun`, in a place, and whose listed
-- directories have an object for each other object of the list, a loader of x86-64 loads the same
-- (IsCarried has the premises, LoadsAlike what follows).
abbrev pub RunsOnHosts : WorldFile → Loaded → Type 0
RunsOnHosts start loaded =
    (host : World) (setting : Setting) (place : List ℕ) (copy : WorldFile)
    → setting.machine ≡ EM_X86_64
    → IsCarried face_or_flaw setting host start loaded.objs place (codes "AppRun") copy
    → LoadsAlike face_or_flaw setting host loaded copy

-- What packing promises of every host.
unfoldable pub RunsAlike : Option Command → World → Type 0
RunsAlike asked world =
    (command : Quick) (start : WorldFile) (loaded : Loaded)
    → asked ≡ Some (AsksQuick command) → IsPackable world command start loaded
    → RunsOnHosts start loaded
