-- Words that fit a form, and what is asked by what is found of them.
use Rattle.std.proofs.Common.{ℕ, List, [], ◌∷◌, false, Option, ◌≡◌, ◌∙◌, refl, ap, drop}
use Rattle.std.specs.List.{list_any}
use Rattle.std.specs.Prelude.{option_and_then, option_map, unwrap_or}
use Rattle.clap.specs.declared.parser.matches.Found.{Found}
use Rattle.clap.proofs.WalkLemmas.{first_value-rows, raw_values-rows}
use Rattle.clap.specs.Words.{Row, Text, all_of, first_of, first_value, matched_of, raw_values, rows_of}
use Rattle.command_words.specs.Forms.{Fits, build_app, build_found, build_told, gen_app, gen_found, gen_told, host_told, path_app, path_found, quick_app, quick_found, quick_told, show_told}
use Rattle.command_words.specs.Words.{build_of, gen_of, host_of, is_unshaped, quick_of, show_of}
use Rattle.command_words.proofs.FlaglessLemmas.{front}
use Rattle.command_words.proofs.BuildFormLemmas.{build_fits}
use Rattle.command_words.proofs.GenFormLemmas.{gen_fits}
use Rattle.command_words.proofs.PathFormLemmas.{path_fits}
use Rattle.command_words.proofs.QuickFormLemmas.{quick_fits}

-- the words with their verb
pub quick_words : (words : List Text) (fitted : Option (List Row)) → list_any is_unshaped words ≡ false → Fits quick_app words fitted → fitted ≡ quick_found (drop 1 words)
quick_words [] fitted shaped fits = quick_fits [] [] fitted refl fits
quick_words (verb ∷ words) fitted shaped fits = quick_fits verb words fitted (front (is_unshaped verb) (list_any is_unshaped words) shaped).1 fits

pub build_words : (words : List Text) (fitted : Option (List Row)) → list_any is_unshaped words ≡ false → Fits build_app words fitted → fitted ≡ build_found (drop 1 words)
build_words [] fitted shaped fits = build_fits [] [] fitted refl fits
build_words (verb ∷ words) fitted shaped fits = build_fits verb words fitted (front (is_unshaped verb) (list_any is_unshaped words) shaped).1 fits

pub path_words : (of : Text) (words : List Text) (fitted : Option (List Row)) → list_any is_unshaped words ≡ false → Fits (path_app of) words fitted → fitted ≡ path_found (drop 1 words)
path_words of [] fitted shaped fits = path_fits of [] [] fitted refl fits
path_words of (verb ∷ words) fitted shaped fits = path_fits of verb words fitted (front (is_unshaped verb) (list_any is_unshaped words) shaped).1 fits

pub gen_words : (words : List Text) (fitted : Option (List Row)) → list_any is_unshaped words ≡ false → Fits gen_app words fitted → fitted ≡ gen_found (drop 1 words)
gen_words [] fitted shaped fits = gen_fits [] [] fitted refl fits
gen_words (verb ∷ words) fitted shaped fits = gen_fits verb words fitted (front (is_unshaped verb) (list_any is_unshaped words) shaped).1 fits

-- what is asked, where they do and where they do not
pub quick_asks : (words : List Text) (found : Option (List Row)) → found ≡ quick_found words → option_and_then quick_told found ≡ quick_of words
quick_asks words found e = ap (option_and_then quick_told) e ∙ go words
  where
    go : (words : List Text) → option_and_then quick_told (quick_found words) ≡ quick_of words
    go [] = refl
    go (program ∷ []) = refl
    go (program ∷ out ∷ []) = refl
    go (program ∷ out ∷ name ∷ names) = refl

pub build_asks : (words : List Text) (found : Option (List Row)) → found ≡ build_found words → option_and_then build_told found ≡ build_of words
build_asks words found e = ap (option_and_then build_told) e ∙ go words
  where
    go : (words : List Text) → option_and_then build_told (build_found words) ≡ build_of words
    go [] = refl
    go (config ∷ []) = refl
    go (config ∷ out ∷ []) = refl
    go (config ∷ out ∷ word ∷ words) = refl

pub show_asks : (words : List Text) (found : Option (List Row)) → found ≡ path_found words → option_and_then show_told found ≡ show_of words
show_asks words found e = ap (option_and_then show_told) e ∙ go words
  where
    go : (words : List Text) → option_and_then show_told (path_found words) ≡ show_of words
    go [] = refl
    go (path ∷ []) = refl
    go (path ∷ dir ∷ dirs) = refl

pub host_asks : (words : List Text) (found : Option (List Row)) → found ≡ path_found words → option_and_then host_told found ≡ host_of words
host_asks words found e = ap (option_and_then host_told) e ∙ go words
  where
    go : (words : List Text) → option_and_then host_told (path_found words) ≡ host_of words
    go [] = refl
    go (path ∷ []) = refl
    go (path ∷ dir ∷ dirs) = refl

pub gen_asks : (words : List Text) (found : Option (List Row)) → found ≡ gen_found words → option_and_then gen_told found ≡ gen_of words
gen_asks words found e = ap (option_and_then gen_told) e ∙ go words
  where
    go : (words : List Text) → option_and_then gen_told (gen_found words) ≡ gen_of words
    go [] = refl
    go (count ∷ []) = refl
    go (count ∷ word ∷ words) = refl

-- what is read of the first word of a name, and its words
pub first_told : {Z : Type 0} (f : Text → Option Z) (found : Found) (id : Text) (word : Option Text) → word ≡ first_value found id → option_and_then f word ≡ option_and_then f (first_of id (rows_of found))
first_told f found id word e = ap (option_and_then f) (e ∙ first_value-rows found id)

pub words_told : (found : Found) (id : Text) (words : Option (List Text)) → words ≡ option_map raw_values (matched_of found id) → unwrap_or words [] ≡ unwrap_or (all_of id (rows_of found)) []
words_told found id words e = ap (λ (ws : Option (List Text)). unwrap_or ws []) (e ∙ raw_values-rows found id)
