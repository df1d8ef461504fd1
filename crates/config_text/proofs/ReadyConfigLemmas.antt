-- A configuration that is read is ready, part by part.
use Rattle.std.proofs.Common.{◌≡◌, ◌∙◌, ap, sym, subst, refl, ℕ, Bool, true, false, cond, List, [], ◌∷◌, ◌++◌}
use Rattle.std.specs.Prelude.{Option, None, Some, Result, Ok, Err, All, codes}
use Rattle.std.proofs.lemmas.List.Elements.{All-cons, All-nil, All-weaker}
use Rattle.app_config.specs.Names.{default_names}
use Rattle.app_config.specs.Settings.{default_dirs, setting_of}
use Rattle.app_config.proofs.DirectoryLemmas.{default_are_normal}
use Rattle.app_config.specs.Ready.{AreTogether, HasEnding, IsNamed, IsNameText, IsPlaceable, IsReady, OpensNames}
use Rattle.app_config.specs.declared.config.Config.{Config}
use Rattle.app_config.specs.declared.config.Program.{Program}
use Rattle.load_model.specs.declared.setting.Setting.{Setting}
use Rattle.path_text.specs.Path.{IsNormalPath, base_of}
use Rattle.toml.specs.Data.{Data, Members, get_member}
use Rattle.config_text.specs.Faults.{then_read, unless}
use Rattle.config_text.specs.Kinds.{Kind, a_file, a_list, a_name, a_path, desktop_endings, icon_endings, is_file_of, named}
use Rattle.config_text.specs.Parts.{desktop_of, dirs_of, files_of, icon_of, main_of, name_given, names_of, setting_read, token_of, tool_keys, tool_name, tool_of, tools_of}
use Rattle.config_text.specs.Reading.{assembled, carried_of, config_in, config_of, config_read, document_of, parts_of, shown_of, started_of, top_keys, two_targets}
use Rattle.config_text.specs.Tables.{a_table, optional, required, unknown_fault}
use Rattle.config_text.specs.declared.faults.ConfigFault.{ConfigFault}
use Rattle.config_text.specs.declared.reading.Carried.{Carried}
use Rattle.config_text.specs.declared.reading.Shown.{Shown}
use Rattle.config_text.specs.declared.reading.Started.{Started}
use Rattle.config_text.proofs.ReadyLemmas.{Gives, came, default_are, file_gives, file_lies, icon_ends, list_gives, name_gives, named_gives, no_fault, none_are, optional_gives, path_gives, required_gives, same_value, table_gives}

opens_are : (table : Members) (prefix name : List ℕ) (opens : List (List ℕ)) → optional (a_list a_name) [] table prefix name ≡ Ok opens → All (λ n. IsNameText n) opens
opens_are table prefix name opens h = optional_gives (a_list a_name) (All (λ n. IsNameText n)) [] table prefix name opens none_are (list_gives a_name (λ n. IsNameText n) name_gives) h

main_opens : (top : Members) (main : Program) → main_of top ≡ Ok main → OpensNames main
unfolding main_of
main_opens top main h =
    let a = came (required a_path top [] (codes "program")) (λ path. then_read (optional (a_list a_name) [] top [] (codes "opens")) (λ opens. Ok (record { path = path; name = base_of path; opens = opens }))) main h in
    let b = came (optional (a_list a_name) [] top [] (codes "opens")) (λ opens. Ok (record { path = a.0; name = base_of a.0; opens = opens })) main a.2 in
    subst (λ m. OpensNames m) (same_value _ main b.2) (opens_are top [] (codes "opens") b.0 b.1)

host_are : (top : Members) (names : List (List ℕ)) → names_of top ≡ Ok names → All (λ n. IsNameText n) names
unfolding names_of
host_are top names h = optional_gives (a_list a_name) (All (λ n. IsNameText n)) default_names top [] (codes "host") names default_are (list_gives a_name (λ n. IsNameText n) name_gives) h

dirs_are : (top : Members) (dirs : List (List ℕ)) → dirs_of top ≡ Ok dirs → All IsNormalPath dirs
unfolding dirs_of
dirs_are top dirs h = optional_gives (a_list a_path) (All IsNormalPath) default_dirs top [] (codes "directories") dirs default_are_normal (list_gives a_path IsNormalPath path_gives) h

setting_is : (top : Members) (setting : Setting) → setting_read top ≡ Ok setting → All IsNormalPath setting.dirs
unfolding setting_read
setting_is top setting h =
    let a = came (dirs_of top) (λ dirs. then_read (token_of top (codes "lib")) (λ lib. then_read (token_of top (codes "platform")) (λ platform. Ok (record (setting_of dirs) { lib = lib; platform = platform })))) setting h in
    let b = came (token_of top (codes "lib")) (λ lib. then_read (token_of top (codes "platform")) (λ platform. Ok (record (setting_of a.0) { lib = lib; platform = platform }))) setting a.2 in
    let d = came (token_of top (codes "platform")) (λ platform. Ok (record (setting_of a.0) { lib = b.0; platform = platform })) setting b.2 in
    subst (λ (s : Setting). All IsNormalPath s.dirs) (same_value _ setting d.2) (dirs_are top a.0 a.1)

-- ---- tools

abbrev pub IsTool : Program → Type 0
IsTool tool = OpensNames tool × IsNamed tool

given_gives : (key path name : List ℕ) (value : Option Data) → name_given key value path ≡ Ok name → IsNameText name
unfolding Gives
given_gives key path name None h = named_gives key (base_of path) name h
given_gives key path name (Some value) h = name_gives key value name h

tool_named : (prefix path name : List ℕ) (table : Members) → tool_name prefix table path ≡ Ok name → IsNameText name
unfolding tool_name
tool_named prefix path name table h = given_gives (prefix ++ codes "name") path name (get_member (codes "name") table) h

tool_is : (prefix : List ℕ) (table : Members) (tool : Program) → tool_of prefix table ≡ Ok tool → IsTool tool
unfolding tool_of
tool_is prefix table tool h =
    let a = came (required a_path table prefix (codes "program")) (λ path. then_read (tool_name prefix table path) (λ name. then_read (optional (a_list a_name) [] table prefix (codes "opens")) (λ opens. Ok (record { path = path; name = name; opens = opens })))) tool h in
    let b = came (tool_name prefix table a.0) (λ name. then_read (optional (a_list a_name) [] table prefix (codes "opens")) (λ opens. Ok (record { path = a.0; name = name; opens = opens }))) tool a.2 in
    let d = came (optional (a_list a_name) [] table prefix (codes "opens")) (λ opens. Ok (record { path = a.0; name = b.0; opens = opens })) tool b.2 in
    subst (λ t. IsTool t) (same_value _ tool d.2) (opens_are table prefix (codes "opens") d.0 d.1, tool_named prefix a.0 b.0 table b.1)

tools_are : (top : Members) (tools : List Program) → tools_of top ≡ Ok tools → All (λ t. IsTool t) tools
unfolding tools_of
tools_are top tools h =
    optional_gives (a_list (a_table tool_keys tool_of)) (All (λ t. IsTool t)) [] top [] (codes "tools") tools (All-nil (λ t. IsTool t))
    (list_gives (a_table tool_keys tool_of) (λ t. IsTool t) (table_gives tool_keys tool_of (λ t. IsTool t) tool_is)) h

-- ---- the whole

started_is : (top : Members) (s : Started) → started_of top ≡ Ok s → OpensNames s.main × (All (λ n. IsNameText n) s.names × All IsNormalPath s.setting.dirs)
unfolding started_of
started_is top s h =
    let a = came (main_of top) (λ main. then_read (names_of top) (λ names. then_read (setting_read top) (λ setting. Ok (record { main = main; names = names; setting = setting })))) s h in
    let b = came (names_of top) (λ names. then_read (setting_read top) (λ setting. Ok (record { main = a.0; names = names; setting = setting }))) s a.2 in
    let d = came (setting_read top) (λ setting. Ok (record { main = a.0; names = b.0; setting = setting })) s b.2 in
    subst (λ (t : Started). OpensNames t.main × (All (λ n. IsNameText n) t.names × All IsNormalPath t.setting.dirs)) (same_value _ s d.2) (main_opens top a.0 a.1, (host_are top b.0 b.1, setting_is top d.0 d.1))

carried_is : (top : Members) (s : Carried) → carried_of top ≡ Ok s → All (λ t. IsTool t) s.tools
unfolding carried_of
carried_is top s h =
    let a = came (tools_of top) (λ tools. then_read (files_of top) (λ files. Ok (record { tools = tools; files = files }))) s h in
    let b = came (files_of top) (λ files. Ok (record { tools = a.0; files = files })) s a.2 in
    subst (λ (t : Carried). All (λ p. IsTool p) t.tools) (same_value _ s b.2) (tools_are top a.0 a.1)

desktop_lies : (top : Members) (path : List ℕ) → desktop_of top ≡ Ok path → IsPlaceable path
unfolding desktop_of
desktop_lies top path h = file_lies desktop_endings path (required_gives (a_file desktop_endings) (λ p. is_file_of desktop_endings p ≡ true) top [] (codes "desktop") path (file_gives desktop_endings) h)

icon_lies : (top : Members) (path : List ℕ) → icon_of top ≡ Ok path → IsPlaceable path × HasEnding path
unfolding icon_of
icon_lies top path h =
    let file : is_file_of icon_endings path ≡ true = required_gives (a_file icon_endings) (λ p. is_file_of icon_endings p ≡ true) top [] (codes "icon") path (file_gives icon_endings) h in
    (file_lies icon_endings path file, icon_ends path file)

shown_is : (top : Members) (s : Shown) → shown_of top ≡ Ok s → IsPlaceable s.desktop × IsPlaceable s.icon × HasEnding s.icon
unfolding shown_of
shown_is top s h =
    let a = came (desktop_of top) (λ desktop. then_read (icon_of top) (λ icon. Ok (record { desktop = desktop; icon = icon }))) s h in
    let b = came (icon_of top) (λ icon. Ok (record { desktop = a.0; icon = icon })) s a.2 in
    let i = icon_lies top b.0 b.1 in
    subst (λ (t : Shown). IsPlaceable t.desktop × IsPlaceable t.icon × HasEnding t.icon) (same_value _ s b.2) (desktop_lies top a.0 a.1, i.0, i.1)

opening : (tools : List Program) → All (λ t. IsTool t) tools → All OpensNames tools
opening tools h = All-weaker (λ t. IsTool t) OpensNames (λ t p. p.0) tools h

naming : (tools : List Program) → All (λ t. IsTool t) tools → All IsNamed tools
naming tools h = All-weaker (λ t. IsTool t) IsNamed (λ t p. p.1) tools h

parts_are : (top : Members) (config : Config) → parts_of top ≡ Ok config → IsReady config
unfolding parts_of
parts_are top config h =
    let a = came (started_of top) (λ started. then_read (carried_of top) (λ carried. then_read (shown_of top) (λ shown. unless (two_targets carried.tools carried.files) (Ok (assembled started carried shown))))) config h in
    let b = came (carried_of top) (λ carried. then_read (shown_of top) (λ shown. unless (two_targets carried.tools carried.files) (Ok (assembled a.0 carried shown)))) config a.2 in
    let d = came (shown_of top) (λ shown. unless (two_targets b.0.tools b.0.files) (Ok (assembled a.0 b.0 shown))) config b.2 in
    let e = no_fault (two_targets b.0.tools b.0.files) (Ok (assembled a.0 b.0 d.0)) config d.2 in
    let s = started_is top a.0 a.1 in
    let tools = carried_is top b.0 b.1 in
    subst (λ c. IsReady c) (same_value (assembled a.0 b.0 d.0) config e)
    (record { names = s.1.0; opens = All-cons OpensNames a.0.main b.0.tools s.0 (opening b.0.tools tools); tools = naming b.0.tools tools; entry = shown_is top d.0 d.1; dirs = s.1.1 })

config_is : (top : Members) (config : Config) → config_of top ≡ Ok config → IsReady config
unfolding config_of
config_is top config h = parts_are top config (no_fault (unknown_fault top_keys [] top) (parts_of top) config h)

document_is : (document : Option Members) (config : Config) → config_in document ≡ Ok config → IsReady config
document_is None config h = absurd (cc)
document_is (Some top) config h = config_is top config h

pub read_is_ready : (bytes : List ℕ) (config : Config) → config_read bytes ≡ Ok config → IsReady config
unfolding config_read
read_is_ready bytes config h = document_is (document_of bytes) config h
