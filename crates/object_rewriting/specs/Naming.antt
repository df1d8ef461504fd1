-- Whether two files name the same: needed libraries, themselves, and files that versions are asked
-- of
use Rattle.std.specs.Prelude.{ℕ, Bool, true, false, ◌&&◌, ◌==◌, List, Option, Some, None, length}
use Rattle.std.specs.List.{list_all, zip}
use Rattle.std.specs.Str.{bytes_eq}
use Rattle.load_model.specs.declared.asks.Ask.{Ask}
use Rattle.load_model.specs.declared.faces.Face.{Face}

-- Each text is the same as the one beside it.
abbrev pub match_up : List (List ℕ) → List (List ℕ) → Bool
match_up xs ys = list_all (λ p. bytes_eq p.0 p.1) (zip xs ys)

-- The texts are the same, one by one.
abbrev pub same_texts : List (List ℕ) → List (List ℕ) → Bool
same_texts xs ys = (length xs == length ys) && match_up xs ys

-- The same of the files that versions are asked of.
abbrev pub files_match_up : List Ask → List Ask → Bool
files_match_up xs ys = list_all (λ p. bytes_eq p.0.file p.1.file) (zip xs ys)

abbrev pub same_files : List Ask → List Ask → Bool
same_files xs ys = (length xs == length ys) && files_match_up xs ys

-- The same of a text that may be missing.
abbrev pub same_text : Option (List ℕ) → Option (List ℕ) → Bool
same_text None None = true
same_text None (Some y) = false
same_text (Some x) None = false
same_text (Some x) (Some y) = bytes_eq x y

-- All that a change looks at is the same.
abbrev pub names_the_same : Face → Face → Bool
names_the_same f g =
    same_texts f.needs g.needs && (same_text f.soname g.soname
    && same_files f.asks g.asks)
