-- What a text is read as: a configuration, or its first fault.
use Rattle.std.specs.Prelude.{ℕ, List, [], ◌∷◌, ◌++◌, Bool, cond, codes, map, bytes_eq, Option, None, Some, Result, Ok, Err, option_map}
use Rattle.std.specs.List.{list_any}
use Rattle.std.specs.Str.{is_utf8}
use Rattle.indexmap.specs.IndexSet.{insert_key}
use Rattle.app_config.specs.declared.config.Config.{Config}
use Rattle.app_config.specs.declared.config.Data.{Data as FileData}
use Rattle.app_config.specs.declared.config.Program.{Program}
use Rattle.toml.specs.Data.{Members}
use Rattle.toml.specs.Parse.{parse_document}
use Rattle.config_text.specs.Faults.{then_read, unless}
use Rattle.config_text.specs.Parts.{desktop_of, files_of, icon_of, main_of, names_of, setting_read, tools_of}
use Rattle.config_text.specs.Tables.{unknown_fault}
use Rattle.config_text.specs.declared.faults.ConfigFault.{ConfigFault}
use Rattle.config_text.specs.declared.reading.Carried.{Carried}
use Rattle.config_text.specs.declared.reading.Shown.{Shown}
use Rattle.config_text.specs.declared.reading.Started.{Started}
use Rattle.config_text.specs.declared.faults.ConfigFault.TheVariants.{NotToml, TwoTargets}

-- ---- where things come to lie

-- The places of the tools and then of the data files.
unfoldable pub targets_of : List Program → List FileData → List (List ℕ)
targets_of tools files =
    map (λ tool. codes "usr/bin/" ++ tool.name) tools ++ map (λ file. file.to) files

-- The first text that stood before, after these.
abbrev pub repeated : List (List ℕ) → List (List ℕ) → Option (List ℕ)
repeated before [] = None
repeated before (text ∷ texts) =
    cond (list_any (bytes_eq text) before)
    (Some text)
    (repeated (insert_key bytes_eq before text) texts)

unfoldable pub two_targets : List Program → List FileData → Option ConfigFault
two_targets tools files = option_map TwoTargets (repeated [] (targets_of tools files))

-- ---- the whole

abbrev pub top_keys : List (List ℕ)
top_keys =
    codes "program" ∷ codes "opens" ∷ codes "host" ∷ codes "directories" ∷
    codes "lib" ∷ codes "platform" ∷ codes "tools" ∷ codes "data" ∷
    codes "desktop" ∷ codes "icon" ∷ []

unfoldable pub started_of : Members → Result Started ConfigFault
started_of top =
    then_read (main_of top) (λ main.
    then_read (names_of top) (λ names.
    then_read (setting_read top) (λ setting.
    Ok (record { main = main; names = names; setting = setting }))))

unfoldable pub carried_of : Members → Result Carried ConfigFault
carried_of top =
    then_read (tools_of top) (λ tools.
    then_read (files_of top) (λ files.
    Ok (record { tools = tools; files = files })))

unfoldable pub shown_of : Members → Result Shown ConfigFault
shown_of top =
    then_read (desktop_of top) (λ desktop.
    then_read (icon_of top) (λ icon.
    Ok (record { desktop = desktop; icon = icon })))

abbrev pub assembled : Started → Carried → Shown → Config
assembled started carried shown =
    record {
      main = started.main;
      tools = carried.tools;
      files = carried.files;
      desktop = Some shown.desktop;
      icon = Some shown.icon;
      names = started.names;
      setting = started.setting;
    }

-- The parts in their order, and no target twice.
unfoldable pub parts_of : Members → Result Config ConfigFault
parts_of top =
    then_read (started_of top) (λ started.
    then_read (carried_of top) (λ carried.
    then_read (shown_of top) (λ shown.
    unless (two_targets carried.tools carried.files) (Ok (assembled started carried shown)))))

-- What a table says, where it has no other keys.
unfoldable pub config_of : Members → Result Config ConfigFault
config_of top = unless (unknown_fault top_keys [] top) (parts_of top)

-- The table of a document (the crate `toml` says what its text has to be), where bytes are one.
abbrev pub document_of : List ℕ → Option Members
document_of bytes = cond (is_utf8 bytes) (parse_document bytes) None

abbrev pub config_in : Option Members → Result Config ConfigFault
config_in None = Err NotToml
config_in (Some top) = config_of top

unfoldable pub config_read : List ℕ → Result Config ConfigFault
config_read bytes = config_in (document_of bytes)
