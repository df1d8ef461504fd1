-- A command that words ask for makes a tree of a size that trees may have.
use Rattle.std.proofs.Common.{ℕ, List, [], ◌∷◌, Bool, true, false, cond, Option, Some, None, ◌≡◌, ◌∙◌, refl, sym, subst, option_map}
use Rattle.std.specs.Prelude.{codes}
use Rattle.std.specs.List.{list_any}
use Rattle.std.specs.Str.{bytes_eq}
use Rattle.command_words.proofs.CountLemmas.{count_sized}
use Rattle.command_words.specs.Words.{IsSized, build_asked, build_of, command_of, count_told, gen_asked, gen_with, host_asked, host_of, is_unshaped, quick_asked, quick_of, shape_of, show_asked, show_of}
use Rattle.command_words.specs.declared.commands.Command.{Command}
use Rattle.command_words.specs.declared.commands.Command.TheVariants.{Quick as AsksQuick, Build as AsksBuild, Show as AsksShow, Host as AsksHost, Gen as AsksGen}
use Rattle.command_words.specs.declared.commands.Build.{Build}
use Rattle.command_words.specs.declared.commands.Gen.{Gen}
use Rattle.command_words.specs.declared.commands.Host.{Host}
use Rattle.command_words.specs.declared.commands.Quick.{Quick}
use Rattle.command_words.specs.declared.commands.Show.{Show}

-- where there is a command, its tree has such a size
abbrev pub AreSized : Option Command → Type 0
AreSized asked = (command : Command) → asked ≡ Some command → IsSized command

none_sized : AreSized None
none_sized command h = absurd (cc)

quick_sized : (quick : Option Quick) → AreSized (option_map (λ q. AsksQuick q) quick)
quick_sized None command h = absurd (cc)
quick_sized (Some quick) command h = let same : AsksQuick quick ≡ command = cc in subst IsSized same tt

show_sized : (show : Option Show) → AreSized (option_map (λ s. AsksShow s) show)
show_sized None command h = absurd (cc)
show_sized (Some show) command h = let same : AsksShow show ≡ command = cc in subst IsSized same tt

build_sized : (build : Option Build) → AreSized (option_map (λ b. AsksBuild b) build)
build_sized None command h = absurd (cc)
build_sized (Some build) command h = let same : AsksBuild build ≡ command = cc in subst IsSized same tt

host_sized : (host : Option Host) → AreSized (option_map (λ o. AsksHost o) host)
host_sized None command h = absurd (cc)
host_sized (Some host) command h = let same : AsksHost host ≡ command = cc in subst IsSized same tt

with_sized : (text : List ℕ) (n : Option ℕ) → count_told text ≡ n → AreSized (option_map (λ gen. AsksGen gen) (gen_with n))
with_sized text None e command h = absurd (cc)
with_sized text (Some n) e command h =
    let made : Gen = record { count = n } in
    let same : AsksGen made ≡ command = cc in
    subst IsSized same (count_sized text n e)

gen_sized : (words : List (List ℕ)) → AreSized (gen_asked words)
gen_sized [] = none_sized
gen_sized (count ∷ []) = with_sized count (count_told count) refl
gen_sized (count ∷ word ∷ words) = none_sized

either : (b : Bool) (one other : Option Command) → AreSized one → AreSized other → AreSized (cond b one other)
either true one other p q = p
either false one other p q = q

-- the shapes but the first, from the last on
abbrev gen_shape : List ℕ → List (List ℕ) → Option Command
gen_shape verb words = cond (bytes_eq verb (codes "gen")) (gen_asked words) None

abbrev host_shape : List ℕ → List (List ℕ) → Option Command
host_shape verb words = cond (bytes_eq verb (codes "host")) (host_asked words) (gen_shape verb words)

abbrev show_shape : List ℕ → List (List ℕ) → Option Command
show_shape verb words = cond (bytes_eq verb (codes "show")) (show_asked words) (host_shape verb words)

abbrev build_shape : List ℕ → List (List ℕ) → Option Command
build_shape verb words = cond (bytes_eq verb (codes "build")) (build_asked words) (show_shape verb words)

shape_sized : (words : List (List ℕ)) → AreSized (shape_of words)
shape_sized [] = none_sized
shape_sized (verb ∷ words) =
    either (bytes_eq verb (codes "quick")) (quick_asked words) (build_shape verb words) (quick_sized (quick_of words))
    (either (bytes_eq verb (codes "build")) (build_asked words) (show_shape verb words) (build_sized (build_of words))
    (either (bytes_eq verb (codes "show")) (show_asked words) (host_shape verb words) (show_sized (show_of words))
    (either (bytes_eq verb (codes "host")) (host_asked words) (gen_shape verb words) (host_sized (host_of words))
    (either (bytes_eq verb (codes "gen")) (gen_asked words) None (gen_sized words) none_sized))))

pub asked_sized : (words : List (List ℕ)) → AreSized (command_of words)
asked_sized words = either (list_any is_unshaped words) None (shape_of words) none_sized (shape_sized words)

pub command_sized : (words : List (List ℕ)) (command : Command) → Some command ≡ command_of words → IsSized command
command_sized words command h = asked_sized words command (sym h)
