-- The shapes of the words.
use Rattle.std.specs.Prelude.{ℕ, ◌^◌, ◌<◌, ◌≡◌, ◌&&◌, nat_le, List, [], ◌∷◌, Bool, true, cond, ◌==◌, Option, Some, None, option_map, codes, map, string_bytes, String}
use Rattle.std.specs.Fmt.{decimal}
use Rattle.std.specs.Global.{Global}
use Rattle.std.specs.List.{find, list_any, list_all, range_with_len}
use Rattle.std.specs.Result.{result_ok}
use Rattle.std.specs.Str.{bytes_eq}
use Rattle.path_text.specs.Path.{path_of}
use Rattle.path_text.specs.FileName.{is_file_name_text}
use Rattle.app_config.specs.Settings.{default_dirs}
use Rattle.elf_make.specs.Generator.{IsTreeSize}
use Rattle.command_words.specs.declared.commands.Command.{Command}
use Rattle.command_words.specs.declared.commands.Command.TheVariants.{Quick as AsksQuick, Build as AsksBuild, Show as AsksShow, Host as AsksHost, Gen as AsksGen}
use Rattle.command_words.specs.declared.commands.Build.{Build}
use Rattle.command_words.specs.declared.commands.Gen.{Gen}
use Rattle.command_words.specs.declared.commands.Host.{Host}
use Rattle.command_words.specs.declared.commands.Quick.{Quick}
use Rattle.command_words.specs.declared.commands.Show.{Show}

-- The words as texts.
abbrev pub texts : List (String Global) → List (List ℕ)
texts words = map (λ w. string_bytes w) words

-- Whether a word has no place in any shape: an empty one, or one that begins with `-`.
abbrev pub is_unshaped : List ℕ → Bool
is_unshaped [] = true
is_unshaped (c ∷ word) = c == 45

-- A path that reads, in normal form.
abbrev pub path_told : List ℕ → Option (List ℕ)
path_told text = result_ok (path_of text)

abbrev pub quick_with : Option (List ℕ) → Option (List ℕ) → List (List ℕ) → Option Quick
quick_with (Some p) (Some o) ns =
    cond (list_all is_file_name_text ns)
    (Some (record { program = p; out = o; names = ns })) None
quick_with _ _ ns = None

-- The shape PROGRAM OUT [NAME ..].
abbrev pub quick_of : List (List ℕ) → Option Quick
quick_of (program ∷ out ∷ names) = quick_with (path_told program) (path_told out) names
quick_of _ = None

abbrev pub build_with : Option (List ℕ) → Option (List ℕ) → Option Build
build_with (Some c) (Some o) = Some (record { config = c; out = o })
build_with _ _ = None

-- The shape CONFIG OUT.
abbrev pub build_of : List (List ℕ) → Option Build
build_of (config ∷ out ∷ []) = build_with (path_told config) (path_told out)
build_of _ = None

-- The words DIR, or the default directories where there are none.
abbrev pub dirs_of : List (List ℕ) → List (List ℕ)
dirs_of [] = default_dirs
dirs_of (dir ∷ dirs) = dir ∷ dirs

-- The paths that these texts read as, where all do.
abbrev pub with_path : Option (List ℕ) → Option (List (List ℕ)) → Option (List (List ℕ))
with_path (Some path) (Some paths) = Some (path ∷ paths)
with_path _ _ = None

unfoldable pub paths_told : List (List ℕ) → Option (List (List ℕ))
paths_told [] = Some []
paths_told (text ∷ texts) = with_path (path_told text) (paths_told texts)

abbrev pub show_with : Option (List ℕ) → Option (List (List ℕ)) → Option Show
show_with (Some p) (Some dirs) = Some (record { program = p; dirs = dirs_of dirs })
show_with _ _ = None

-- The shape PROGRAM [DIR ..].
abbrev pub show_of : List (List ℕ) → Option Show
show_of (program ∷ dirs) = show_with (path_told program) (paths_told dirs)
show_of [] = None

abbrev pub host_with : Option (List ℕ) → Option (List (List ℕ)) → Option Host
host_with (Some p) (Some dirs) = Some (record { place = p; dirs = dirs_of dirs })
host_with _ _ = None

-- The shape OUT [DIR ..].
abbrev pub host_of : List (List ℕ) → Option Host
host_of (out ∷ dirs) = host_with (path_told out) (paths_told dirs)
host_of [] = None

-- The text is the decimal form of a number of 32 bits, or of none.
abbrev pub IsDecimalOf : List ℕ → Option ℕ → Type 0
IsDecimalOf text (Some n) = (n < 2 ^ 32) × (text ≡ decimal n)
IsDecimalOf text None = (n : ℕ) → n < 2 ^ 32 → text ≡ decimal n → ⊥

-- The number, where a tree may have so many libraries.
abbrev pub tree_size : Option ℕ → Option ℕ
tree_size (Some n) = cond (nat_le 1 n && nat_le n 1000) (Some n) None
tree_size None = None

-- The number from 1 to 1,000 whose decimal form a text is.
unfoldable pub count_told : List ℕ → Option ℕ
count_told text = find (λ n. bytes_eq (decimal n) text) (range_with_len 1 1000)

abbrev pub gen_with : Option ℕ → Option Gen
gen_with (Some n) = Some (record { count = n })
gen_with None = None

-- The shape N.
abbrev pub gen_of : List (List ℕ) → Option Gen
gen_of (count ∷ []) = gen_with (count_told count)
gen_of _ = None

-- What the words behind a verb ask for.
abbrev pub quick_asked : List (List ℕ) → Option Command
quick_asked words = option_map (λ quick. AsksQuick quick) (quick_of words)

abbrev pub build_asked : List (List ℕ) → Option Command
build_asked words = option_map (λ build. AsksBuild build) (build_of words)

abbrev pub show_asked : List (List ℕ) → Option Command
show_asked words = option_map (λ show. AsksShow show) (show_of words)

abbrev pub host_asked : List (List ℕ) → Option Command
host_asked words = option_map (λ host. AsksHost host) (host_of words)

abbrev pub gen_asked : List (List ℕ) → Option Command
gen_asked words = option_map (λ gen. AsksGen gen) (gen_of words)

abbrev pub shape_of : List (List ℕ) → Option Command
shape_of (verb ∷ words) =
    cond (bytes_eq verb (codes "quick")) (quick_asked words)
    (cond (bytes_eq verb (codes "build")) (build_asked words)
    (cond (bytes_eq verb (codes "show")) (show_asked words)
    (cond (bytes_eq verb (codes "host")) (host_asked words)
    (cond (bytes_eq verb (codes "gen")) (gen_asked words) None))))
shape_of [] = None

-- The command that the words have the shape of, or none.
abbrev pub command_of : List (List ℕ) → Option Command
command_of words = cond (list_any is_unshaped words) None (shape_of words)

-- A tree that a command makes has a size that trees may have.
abbrev pub IsSized : Command → Type 0
IsSized (AsksQuick command) = Unit {0}
IsSized (AsksBuild command) = Unit {0}
IsSized (AsksShow command) = Unit {0}
IsSized (AsksHost command) = Unit {0}
IsSized (AsksGen command) = IsTreeSize command.count
