-- The parts of a configuration, each with its keys, in the order in which their faults come.
use Rattle.std.specs.Prelude.{ℕ, List, [], ◌∷◌, ◌++◌, codes, Option, None, Some, Result, Ok}
use Rattle.app_config.specs.Names.{default_names}
use Rattle.app_config.specs.Settings.{default_dirs, setting_of}
use Rattle.app_config.specs.declared.config.Data.{Data as FileData}
use Rattle.app_config.specs.declared.config.Program.{Program}
use Rattle.load_model.specs.declared.setting.Setting.{Setting}
use Rattle.path_text.specs.Path.{base_of}
use Rattle.toml.specs.Data.{Data, Members, get_member}
use Rattle.config_text.specs.Faults.{then_read}
use Rattle.config_text.specs.Kinds.{Kind, a_file, a_list, a_name, a_path, a_target, a_text, desktop_endings, icon_endings, named}
use Rattle.config_text.specs.Tables.{a_table, if_any, optional, required}
use Rattle.config_text.specs.declared.faults.ConfigFault.{ConfigFault}

-- ---- the main program: `program` and `opens`

unfoldable pub main_of : Members → Result Program ConfigFault
main_of top =
    then_read (required a_path top [] (codes "program")) (λ path.
    then_read (optional (a_list a_name) [] top [] (codes "opens")) (λ opens.
    Ok (record { path = path; name = base_of path; opens = opens })))

-- ---- the names that hosts have: `host`

unfoldable pub names_of : Members → Result (List (List ℕ)) ConfigFault
names_of top = optional (a_list a_name) default_names top [] (codes "host")

-- ---- what the loader is set to: `directories`, `lib` and `platform`

unfoldable pub dirs_of : Members → Result (List (List ℕ)) ConfigFault
dirs_of top = optional (a_list a_path) default_dirs top [] (codes "directories")

unfoldable pub token_of : Members → List ℕ → Result (Option (List ℕ)) ConfigFault
token_of top name = optional (if_any a_text) None top [] name

unfoldable pub setting_read : Members → Result Setting ConfigFault
setting_read top =
    then_read (dirs_of top) (λ dirs.
    then_read (token_of top (codes "lib")) (λ lib.
    then_read (token_of top (codes "platform")) (λ platform.
    Ok (record (setting_of dirs) { lib = lib; platform = platform }))))

-- ---- tools: each with `program`, `name` and `opens`

abbrev pub tool_keys : List (List ℕ)
tool_keys = codes "program" ∷ codes "name" ∷ codes "opens" ∷ []

-- The last part of its path unless a name is given, and a file name in either case.
abbrev pub name_given : List ℕ → Option Data → List ℕ → Result (List ℕ) ConfigFault
name_given key None path = named key (base_of path)
name_given key (Some value) path = a_name key value

unfoldable pub tool_name : List ℕ → Members → List ℕ → Result (List ℕ) ConfigFault
tool_name prefix members path =
    name_given (prefix ++ codes "name") (get_member (codes "name") members) path

unfoldable pub tool_of : List ℕ → Members → Result Program ConfigFault
tool_of prefix members =
    then_read (required a_path members prefix (codes "program")) (λ path.
    then_read (tool_name prefix members path) (λ name.
    then_read (optional (a_list a_name) [] members prefix (codes "opens")) (λ opens.
    Ok (record { path = path; name = name; opens = opens }))))

unfoldable pub tools_of : Members → Result (List Program) ConfigFault
tools_of top = optional (a_list (a_table tool_keys tool_of)) [] top [] (codes "tools")

-- ---- data files: each with `from` and `to`

abbrev pub file_keys : List (List ℕ)
file_keys = codes "from" ∷ codes "to" ∷ []

unfoldable pub file_of : List ℕ → Members → Result FileData ConfigFault
file_of prefix members =
    then_read (required a_path members prefix (codes "from")) (λ from.
    then_read (required a_target members prefix (codes "to")) (λ to.
    Ok (record { from = from; to = to })))

unfoldable pub files_of : Members → Result (List FileData) ConfigFault
files_of top = optional (a_list (a_table file_keys file_of)) [] top [] (codes "data")

-- ---- `desktop` and `icon`

unfoldable pub desktop_of : Members → Result (List ℕ) ConfigFault
desktop_of top = required (a_file desktop_endings) top [] (codes "desktop")

unfoldable pub icon_of : Members → Result (List ℕ) ConfigFault
icon_of top = required (a_file icon_endings) top [] (codes "icon")
