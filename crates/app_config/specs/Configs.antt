-- The configuration of a program alone.
use Rattle.std.specs.Prelude.{ℕ, List, [], None}
use Rattle.path_text.specs.Path.{base_of}
use Rattle.app_config.specs.Names.{names_or_default}
use Rattle.app_config.specs.Settings.{default_setting}
use Rattle.app_config.specs.declared.config.Config.{Config}
use Rattle.app_config.specs.declared.config.Program.{Program}

-- A program that opens nothing, named by the last part of its path.
abbrev pub program_alone : List ℕ → Program
program_alone path = record { path = path; name = base_of path; opens = [] }

-- One program with nothing beside it, and these names, or the default ones where none is given.
abbrev pub quick_config_of : List ℕ → List (List ℕ) → Config
quick_config_of program names =
    record {
      main = program_alone program;
      tools = [];
      files = [];
      desktop = None;
      icon = None;
      names = names_or_default names;
      setting = default_setting;
    }
