-- A change that fits a file, by what a loader sees of it
use Rattle.std.specs.Prelude.{ℕ, ◌≡◌, ◌<◌, true, is_some, List, length, map}
use Rattle.std.specs.List.{list_all}
use Rattle.load_model.specs.declared.asks.Ask.{Ask}
use Rattle.load_model.specs.declared.faces.Face.{Face}
use Rattle.elf_rewrite.specs.NewFile.{is_name_or_none, is_name_text, text_at}
use Rattle.elf_rewrite.specs.declared.change.Change.{Change}

abbrev pub files_in : List Ask → List (List ℕ)
files_in asks = map (λ a. a.file) asks

-- As Fits says it of the file.
pub record FitsFace (change : Change) (face : Face) : Type 0 where
  pub needs : length change.needs ≡ length face.needs
  pub files : length change.files ≡ length face.asks
  pub alike : (i j : ℕ) → i < length face.asks → j < length face.asks
      → text_at (files_in face.asks) i ≡ text_at (files_in face.asks) j
      → text_at change.files i ≡ text_at change.files j
  pub soname : is_some change.soname ≡ true → is_some face.soname ≡ true
  pub need_texts : list_all is_name_text change.needs ≡ true
  pub file_texts : list_all is_name_text change.files ≡ true
  pub soname_text : is_name_or_none change.soname ≡ true
  pub path_text : is_name_or_none change.runpath ≡ true
