-- The forms of the words behind a verb, and what is found of words that fit one.
use Rattle.std.specs.Prelude.{ℕ, List, [], ◌∷◌, ◌≡◌, true, Option, Some, None, codes, option_and_then, unwrap_or}
use Rattle.clap.specs.Words.{App, Row, Rule, Text, all_of, fault_of, first_of, matches_of, new_app, new_rule, with_rule}
use Rattle.clap.specs.declared.builder.ArgAction.TheVariants.{Append}
use Rattle.clap.specs.declared.builder.value_parser.Reading.TheVariants.{AsWritten}
use Rattle.clap.specs.declared.parser.matches.ValueSource.TheVariants.{CommandLine}
use Rattle.command_words.specs.Words.{build_with, count_told, gen_with, host_with, path_told, paths_told, quick_with, show_with}
use Rattle.command_words.specs.declared.commands.Build.{Build}
use Rattle.command_words.specs.declared.commands.Gen.{Gen}
use Rattle.command_words.specs.declared.commands.Host.{Host}
use Rattle.command_words.specs.declared.commands.Quick.{Quick}
use Rattle.command_words.specs.declared.commands.Show.{Show}

-- A word that has to stand there, and words that may.
abbrev pub one_word : Text → Rule
one_word id = record (new_rule id) { required = true }

abbrev pub more_words : Text → Rule
more_words id = record (new_rule id) { action = Some Append }

-- PROGRAM OUT [NAME ..], CONFIG OUT, PATH [DIR ..] and N.
abbrev pub quick_app : App
quick_app = with_rule
    (with_rule (with_rule (new_app (codes "quick")) (one_word (codes "program")))
    (one_word (codes "out"))) (more_words (codes "names"))

abbrev pub build_app : App
build_app = with_rule (with_rule (new_app (codes "build")) (one_word (codes "config")))
    (one_word (codes "out"))

abbrev pub path_app : Text → App
path_app verb = with_rule (with_rule (new_app verb) (one_word (codes "path")))
    (more_words (codes "dirs"))

abbrev pub gen_app : App
gen_app = with_rule (new_app (codes "gen")) (one_word (codes "count"))

-- What reading words by a form finds, or that they do not fit.
abbrev pub Fits : App → List Text → Option (List Row) → Type 0
Fits form words (Some rows) = (fault_of form words ≡ []) × (rows ≡ matches_of form words)
Fits form words None = fault_of form words ≡ [] → ⊥

-- What is found of one word, and of more words.
abbrev pub row : Text → List Text → Row
row id values = record {
  id = id;
  values = values;
  count = None;
  source = Some CommandLine;
  reading = AsWritten;
}

abbrev pub more_rows : Text → List Text → List Row
more_rows id [] = []
more_rows id (word ∷ words) = row id (word ∷ words) ∷ []

-- What is found of the words behind the verb.
abbrev pub quick_found : List Text → Option (List Row)
quick_found (program ∷ out ∷ names) = Some (row (codes "program") (program ∷ [])
    ∷ row (codes "out") (out ∷ []) ∷ more_rows (codes "names") names)
quick_found _ = None

abbrev pub build_found : List Text → Option (List Row)
build_found (config ∷ out ∷ []) =
    Some (row (codes "config") (config ∷ []) ∷ row (codes "out") (out ∷ []) ∷ [])
build_found _ = None

abbrev pub path_found : List Text → Option (List Row)
path_found (path ∷ dirs) = Some (row (codes "path") (path ∷ []) ∷ more_rows (codes "dirs") dirs)
path_found [] = None

abbrev pub gen_found : List Text → Option (List Row)
gen_found (count ∷ []) = Some (row (codes "count") (count ∷ []) ∷ [])
gen_found _ = None

-- The path that a word reads as, the words that may stand there, and the number of a word.
abbrev pub path_in : Text → List Row → Option Text
path_in id rows = option_and_then (λ word. path_told word) (first_of id rows)

abbrev pub words_in : Text → List Row → List Text
words_in id rows = unwrap_or (all_of id rows) []

abbrev pub count_in : Text → List Row → Option ℕ
count_in id rows = option_and_then (λ word. count_told word) (first_of id rows)

-- What is asked by what is found of the words.
abbrev pub quick_told : List Row → Option Quick
quick_told rows = quick_with (path_in (codes "program") rows) (path_in (codes "out") rows)
    (words_in (codes "names") rows)

abbrev pub build_told : List Row → Option Build
build_told rows = build_with (path_in (codes "config") rows) (path_in (codes "out") rows)

abbrev pub show_told : List Row → Option Show
show_told rows = show_with (path_in (codes "path") rows)
    (paths_told (words_in (codes "dirs") rows))

abbrev pub host_told : List Row → Option Host
host_told rows = host_with (path_in (codes "path") rows)
    (paths_told (words_in (codes "dirs") rows))

abbrev pub gen_told : List Row → Option Gen
gen_told rows = gen_with (count_in (codes "count") rows)
