-- The names of a command are words of the call, and file names.
use Rattle.std.proofs.Common.{ℕ, List, [], ◌∷◌, Bool, true, false, cond, Option, Some, None, ◌≡◌, option_map, refl, ◌∙◌, ap, subst, nat_lt}
use Rattle.std.specs.Prelude.{All, IsUtf8, string_bytes, String}
use Rattle.std.specs.Global.{Global}
use Rattle.std.specs.List.{list_all, list_any}
use Rattle.std.specs.Str.{bytes_eq}
use Rattle.std.specs.Prelude.{codes}
use Rattle.std.proofs.lemmas.Bool.{and_parts}
use Rattle.std.proofs.lemmas.List.Elements.{All-nil, All-cons, All-tail}
use Rattle.std.proofs.lemmas.Str.{IsUtf8-from_is_utf8, IsUtf8-string_bytes}
use Rattle.load_model.proofs.Texts.{text}
use Rattle.path_text.specs.FileName.{IsFileName, is_file_name_text}
use Rattle.path_text.proofs.NameLemmas.{IsFileName-from_test}
use Rattle.app_config.specs.Names.{default_names, names_or_default}
use Rattle.command_words.specs.Words.{build_asked, build_of, command_of, gen_asked, gen_of, host_asked, host_of, is_unshaped, path_told, quick_asked, quick_of, quick_with, shape_of, show_asked, show_of, texts}
use Rattle.command_words.specs.declared.commands.Command.{Command}
use Rattle.command_words.specs.declared.commands.Command.TheVariants.{Quick as AsksQuick, Build as AsksBuild, Show as AsksShow, Host as AsksHost, Gen as AsksGen}
use Rattle.command_words.specs.declared.commands.Build.{Build}
use Rattle.command_words.specs.declared.commands.Gen.{Gen}
use Rattle.command_words.specs.declared.commands.Host.{Host}
use Rattle.command_words.specs.declared.commands.Quick.{Quick}
use Rattle.command_words.specs.declared.commands.Show.{Show}

-- ---- which names a command has

-- They are file names, and texts where the words are.
pub record AreNamesIn (words names : List (List ℕ)) : Type 0 where
  pub files : list_all is_file_name_text names ≡ true
  pub texts_too : All IsUtf8 words → All IsUtf8 names

test_names : (b : Bool) (program out : List ℕ) (names : List (List ℕ)) (command : Quick) → list_all is_file_name_text names ≡ b → ◌≡◌ {A = Option Quick} (cond b (Some (record { program = program; out = out; names = names })) None) (Some command) → (list_all is_file_name_text names ≡ true) × (names ≡ command.names)
test_names true program out names command e h =
    let is : record { program = program; out = out; names = names } ≡ command = cc in
    (e, ap (λ (c : Quick). c.names) is)
test_names false program out names command e h = cc

with_names : (program out : Option (List ℕ)) (names : List (List ℕ)) (command : Quick) → quick_with program out names ≡ Some command → (list_all is_file_name_text names ≡ true) × (names ≡ command.names)
with_names (Some program) (Some out) names command h = test_names (list_all is_file_name_text names) program out names command refl h
with_names (Some program) None names command h = cc
with_names None out names command h = cc

quick_names : (words : List (List ℕ)) (command : Quick) → quick_of words ≡ Some command → AreNamesIn words command.names
quick_names [] command h = cc
quick_names (program ∷ []) command h = cc
quick_names (program ∷ out ∷ names) command h =
    let w = with_names (path_told program) (path_told out) names command h in
    subst (AreNamesIn (program ∷ out ∷ names)) w.1
    (record { files = w.0; texts_too = λ all. All-tail IsUtf8 out names (All-tail IsUtf8 program (out ∷ names) all) })

asked_names : (words : List (List ℕ)) (quick : Option Quick) (command : Quick) → quick_of words ≡ quick → option_map (λ q. AsksQuick q) quick ≡ Some (AsksQuick command) → AreNamesIn words command.names
asked_names words None command e h = cc
asked_names words (Some quick) command e h =
    let same : quick ≡ command = cc in
    quick_names words command (e ∙ ap Some same)

-- the names of what is asked, where it is `quick`, are such names
abbrev NamesIn : List (List ℕ) → Option Command → Type 0
NamesIn words asked = (command : Quick) → asked ≡ Some (AsksQuick command) → AreNamesIn words command.names

none_named : (words : List (List ℕ)) → NamesIn words None
none_named words command h = absurd (cc)

build_named : (words : List (List ℕ)) (build : Option Build) → NamesIn words (option_map (λ b. AsksBuild b) build)
build_named words None command h = absurd (cc)
build_named words (Some build) command h = absurd (cc)

show_named : (words : List (List ℕ)) (show : Option Show) → NamesIn words (option_map (λ s. AsksShow s) show)
show_named words None command h = absurd (cc)
show_named words (Some show) command h = absurd (cc)

host_named : (words : List (List ℕ)) (host : Option Host) → NamesIn words (option_map (λ o. AsksHost o) host)
host_named words None command h = absurd (cc)
host_named words (Some host) command h = absurd (cc)

gen_named : (words : List (List ℕ)) (gen : Option Gen) → NamesIn words (option_map (λ g. AsksGen g) gen)
gen_named words None command h = absurd (cc)
gen_named words (Some gen) command h = absurd (cc)

-- what holds of either, holds of the one that is chosen
pub either : (P : Option Command → Type 0) (b : Bool) (one other : Option Command) → P one → P other → P (cond b one other)
either P true one other p q = p
either P false one other p q = q

-- the shapes but the first, from the last on
abbrev pub gen_shape : List ℕ → List (List ℕ) → Option Command
gen_shape verb words = cond (bytes_eq verb (codes "gen")) (gen_asked words) None

abbrev pub host_shape : List ℕ → List (List ℕ) → Option Command
host_shape verb words = cond (bytes_eq verb (codes "host")) (host_asked words) (gen_shape verb words)

abbrev pub show_shape : List ℕ → List (List ℕ) → Option Command
show_shape verb words = cond (bytes_eq verb (codes "show")) (show_asked words) (host_shape verb words)

abbrev pub build_shape : List ℕ → List (List ℕ) → Option Command
build_shape verb words = cond (bytes_eq verb (codes "build")) (build_asked words) (show_shape verb words)

verb_named : (verb : List ℕ) (words : List (List ℕ)) → NamesIn words (cond (bytes_eq verb (codes "quick")) (quick_asked words) (build_shape verb words))
verb_named verb words =
    either (NamesIn words) (bytes_eq verb (codes "quick")) (quick_asked words) (build_shape verb words) (λ command h. asked_names words (quick_of words) command refl h)
    (either (NamesIn words) (bytes_eq verb (codes "build")) (build_asked words) (show_shape verb words) (build_named words (build_of words))
    (either (NamesIn words) (bytes_eq verb (codes "show")) (show_asked words) (host_shape verb words) (show_named words (show_of words))
    (either (NamesIn words) (bytes_eq verb (codes "host")) (host_asked words) (gen_shape verb words) (host_named words (host_of words))
    (either (NamesIn words) (bytes_eq verb (codes "gen")) (gen_asked words) None (gen_named words (gen_of words)) (none_named words)))))

shape_names : (words : List (List ℕ)) → NamesIn words (shape_of words)
shape_names [] command h = absurd (cc)
shape_names (verb ∷ words) command h =
    let w = verb_named verb words command h in
    record { files = w.files; texts_too = λ all. w.texts_too (All-tail IsUtf8 verb words all) }

named : (words : List (List ℕ)) → NamesIn words (command_of words)
named words = either (NamesIn words) (list_any is_unshaped words) None (shape_of words) (none_named words) (shape_names words)

-- ---- they are file names

all_names : (names : List (List ℕ)) → list_all is_file_name_text names ≡ true → All IsFileName names
all_names [] h = All-nil IsFileName
all_names (name ∷ names) h =
    let both = and_parts (is_file_name_text name) (list_all is_file_name_text names) h in
    All-cons IsFileName name names (IsFileName-from_test name both.0) (all_names names both.1)

default_test : list_all is_file_name_text default_names ≡ true
default_test = refl

names_are : (names : List (List ℕ)) → list_all is_file_name_text names ≡ true → All IsFileName (names_or_default names)
names_are [] h = all_names default_names default_test
names_are (name ∷ names) h = all_names (name ∷ names) h

pub command_names : (words : List (List ℕ)) (command : Quick) → command_of words ≡ Some (AsksQuick command) → All IsFileName (names_or_default command.names)
command_names words command h = names_are command.names (named words command h).files

-- ---- and texts

all_ascii : List ℕ → Bool
all_ascii name = list_all (λ c. nat_lt c 128) name

all_texts : (names : List (List ℕ)) → list_all all_ascii names ≡ true → All IsUtf8 names
unfolding all_ascii
all_texts [] h = All-nil IsUtf8
all_texts (name ∷ names) h =
    let both = and_parts (list_all (λ c. nat_lt c 128) name) (list_all all_ascii names) h in
    All-cons IsUtf8 name names (IsUtf8-from_is_utf8 name (text name both.0)) (all_texts names both.1)

default_text_test : list_all all_ascii default_names ≡ true
unfolding all_ascii
default_text_test = refl

texts_are : (names : List (List ℕ)) → All IsUtf8 names → All IsUtf8 (names_or_default names)
texts_are [] h = all_texts default_names default_text_test
texts_are (name ∷ names) h = h

words_are : (words : List (String Global)) → All IsUtf8 (texts words)
words_are [] = All-nil IsUtf8
words_are (word ∷ words) = All-cons IsUtf8 (string_bytes word) (texts words) (IsUtf8-string_bytes word) (words_are words)

pub command_texts : (words : List (String Global)) (command : Quick) → command_of (texts words) ≡ Some (AsksQuick command) → All IsUtf8 (names_or_default command.names)
command_texts words command h = texts_are command.names ((named (texts words) command h).texts_too (words_are words))
