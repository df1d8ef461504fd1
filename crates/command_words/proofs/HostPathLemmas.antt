-- The place and the directories of a `host` that was read are paths in normal form.
use Rattle.std.proofs.Common.{ℕ, List, [], ◌∷◌, Bool, Option, Some, None, Result, Ok, Err, ◌≡◌, ◌∙◌, option_map, refl, ap, sym, subst, bytes_eq}
use Rattle.std.specs.Prelude.{All, codes}
use Rattle.std.specs.List.{list_any}
use Rattle.std.specs.Result.{result_ok}
use Rattle.std.proofs.lemmas.List.Elements.{All-cons, All-nil}
use Rattle.app_config.proofs.DirectoryLemmas.{default_are_normal}
use Rattle.path_text.specs.Path.{IsNormalPath, path_of}
use Rattle.path_text.specs.declared.absolute.PathFault.{PathFault}
use Rattle.path_text.proofs.PathLemmas.{IsNormalPath-path_of}
use Rattle.command_words.specs.Words.{build_asked, build_of, command_of, dirs_of, gen_asked, gen_of, host_asked, host_of, host_with, is_unshaped, path_told, paths_told, quick_asked, quick_of, shape_of, show_asked, show_of, with_path}
use Rattle.command_words.specs.declared.commands.Build.{Build}
use Rattle.command_words.specs.declared.commands.Command.{Command}
use Rattle.command_words.specs.declared.commands.Command.TheVariants.{Quick as AsksQuick, Build as AsksBuild, Show as AsksShow, Host as AsksHost, Gen as AsksGen}
use Rattle.command_words.specs.declared.commands.Gen.{Gen}
use Rattle.command_words.specs.declared.commands.Host.{Host}
use Rattle.command_words.specs.declared.commands.Quick.{Quick}
use Rattle.command_words.specs.declared.commands.Show.{Show}
use Rattle.command_words.proofs.CommandLemmas.{build_shape, either, gen_shape, host_shape, show_shape}

-- ---- paths that are read

told_by : (text path : List ℕ) (read : Result (List ℕ) PathFault) → path_of text ≡ read → result_ok read ≡ Some path → IsNormalPath path
told_by text path (Ok found) e h =
    let same : found ≡ path = cc in
    IsNormalPath-path_of text path (e ∙ ap (λ p. Ok p) same)
told_by text path (Err fault) e h = absurd (cc)

told_normal : (text path : List ℕ) → path_told text ≡ Some path → IsNormalPath path
told_normal text path h = told_by text path (path_of text) refl h

both_told : (path : Option (List ℕ)) (others : Option (List (List ℕ))) (paths : List (List ℕ)) → with_path path others ≡ Some paths → (first : List ℕ) × (more : List (List ℕ)) × (path ≡ Some first) × (others ≡ Some more) × (first ∷ more ≡ paths)
both_told (Some first) (Some more) paths h = (first, more, refl, refl, (let same : first ∷ more ≡ paths = cc in same))
both_told (Some first) None paths h = absurd (cc)
both_told None others paths h = absurd (cc)

all_told : (texts paths : List (List ℕ)) → paths_told texts ≡ Some paths → All IsNormalPath paths
unfolding paths_told
all_told [] paths h =
    let same : [] ≡ paths = cc in
    subst (All IsNormalPath) same (All-nil IsNormalPath)
all_told (text ∷ texts) paths h =
    let w = both_told (path_told text) (paths_told texts) paths h in
    subst (All IsNormalPath) w.4 (All-cons IsNormalPath w.0 w.1 (told_normal text w.0 w.2) (all_told texts w.1 w.3))

given_or_default : (dirs : List (List ℕ)) → All IsNormalPath dirs → All IsNormalPath (dirs_of dirs)
given_or_default [] h = default_are_normal
given_or_default (dir ∷ dirs) h = h

-- ---- a command that asks for a host

pub record HasPaths (command : Host) : Type 0 where
  pub place : IsNormalPath command.place
  pub dirs : All IsNormalPath command.dirs

abbrev HasHostPaths : Option Command → Type 0
HasHostPaths asked = (command : Host) → asked ≡ Some (AsksHost command) → HasPaths command

with_paths : (place : Option (List ℕ)) (dirs : Option (List (List ℕ))) (command : Host) → ((path : List ℕ) → place ≡ Some path → IsNormalPath path) → ((paths : List (List ℕ)) → dirs ≡ Some paths → All IsNormalPath paths) → host_with place dirs ≡ Some command → HasPaths command
with_paths (Some place) (Some dirs) command p d h =
    let same : record { place = place; dirs = dirs_of dirs } ≡ command = cc in
    subst HasPaths same (record { place = p place refl; dirs = given_or_default dirs (d dirs refl) })
with_paths (Some place) None command p d h = absurd (cc)
with_paths None dirs command p d h = absurd (cc)

host_paths : (words : List (List ℕ)) (command : Host) → host_of words ≡ Some command → HasPaths command
host_paths [] command h = absurd (cc)
host_paths (out ∷ dirs) command h =
    with_paths (path_told out) (paths_told dirs) command (λ path e. told_normal out path e) (λ paths e. all_told dirs paths e) h

host_has : (words : List (List ℕ)) (host : Option Host) → host_of words ≡ host → HasHostPaths (option_map (λ o. AsksHost o) host)
host_has words None e command h = absurd (cc)
host_has words (Some host) e command h =
    let same : host ≡ command = cc in
    host_paths words command (e ∙ ap (λ o. Some o) same)

quick_has : (quick : Option Quick) → HasHostPaths (option_map (λ q. AsksQuick q) quick)
quick_has None command h = absurd (cc)
quick_has (Some quick) command h = absurd (cc)

build_has : (build : Option Build) → HasHostPaths (option_map (λ b. AsksBuild b) build)
build_has None command h = absurd (cc)
build_has (Some build) command h = absurd (cc)

show_has : (show : Option Show) → HasHostPaths (option_map (λ s. AsksShow s) show)
show_has None command h = absurd (cc)
show_has (Some show) command h = absurd (cc)

gen_has : (gen : Option Gen) → HasHostPaths (option_map (λ g. AsksGen g) gen)
gen_has None command h = absurd (cc)
gen_has (Some gen) command h = absurd (cc)

none_has : HasHostPaths None
none_has command h = absurd (cc)

shape_has : (words : List (List ℕ)) → HasHostPaths (shape_of words)
shape_has [] = none_has
shape_has (verb ∷ words) =
    either HasHostPaths (bytes_eq verb (codes "quick")) (quick_asked words) (build_shape verb words) (quick_has (quick_of words))
    (either HasHostPaths (bytes_eq verb (codes "build")) (build_asked words) (show_shape verb words) (build_has (build_of words))
    (either HasHostPaths (bytes_eq verb (codes "show")) (show_asked words) (host_shape verb words) (show_has (show_of words))
    (either HasHostPaths (bytes_eq verb (codes "host")) (host_asked words) (gen_shape verb words) (host_has words (host_of words) refl)
    (either HasHostPaths (bytes_eq verb (codes "gen")) (gen_asked words) None (gen_has (gen_of words)) none_has))))

pub command_paths : (words : List (List ℕ)) (command : Host) → command_of words ≡ Some (AsksHost command) → HasPaths command
command_paths words command h = either HasHostPaths (list_any is_unshaped words) None (shape_of words) none_has (shape_has words) command h
