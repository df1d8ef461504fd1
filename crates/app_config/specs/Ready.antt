-- What a build may be made of: what a configuration file says, or the words of a command.
use Rattle.std.specs.Prelude.{ℕ, List, ◌∷◌, ◌≡◌, true, ◌==◌, All, IsUtf8, Option, None, Some}
use Rattle.std.specs.List.{list_any}
use Rattle.path_text.specs.FileName.{IsFileName}
use Rattle.path_text.specs.Path.{IsNormalPath, base_of}
use Rattle.path_text.specs.Target.{target_fault}
use Rattle.app_config.specs.declared.config.Config.{Config}
use Rattle.app_config.specs.declared.config.Program.{Program}

-- A name that a file can be given, as a text.
abbrev pub IsNameText : List ℕ → Type 0
IsNameText name = IsFileName name × IsUtf8 name

-- The desktop file and the icon are given together. The last part of each is a path in a directory,
-- and that of the icon has an ending.
abbrev pub IsPlaceable : List ℕ → Type 0
IsPlaceable path = target_fault (base_of path) ≡ None

abbrev pub HasEnding : List ℕ → Type 0
HasEnding path = list_any (λ c. c == 46) (base_of path) ≡ true

abbrev pub AreTogether : Option (List ℕ) → Option (List ℕ) → Type 0
AreTogether None None = Unit {0}
AreTogether (Some desktop) (Some icon) =
    IsPlaceable desktop × IsPlaceable icon × HasEnding icon
AreTogether None (Some icon) = ⊥
AreTogether (Some desktop) None = ⊥

-- The names that a program opens, and the name that a tool gets.
abbrev pub OpensNames : Program → Type 0
OpensNames program = All IsNameText program.opens

abbrev pub IsNamed : Program → Type 0
IsNamed program = IsNameText program.name

pub record IsReady (config : Config) : Type 0 where
  pub names : All IsNameText config.names
  pub opens : All OpensNames (config.main ∷ config.tools)
  pub tools : All IsNamed config.tools
  pub entry : AreTogether config.desktop config.icon
  pub dirs : All IsNormalPath config.setting.dirs
