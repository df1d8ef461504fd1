-- What is known of a face over every tree.
use Rattle.std.specs.Prelude.{ℕ, List, ◌≡◌, Bool, true, not, ◌&&◌, Option, Some, None, map}
use Rattle.std.specs.List.{list_all}
use Rattle.std.specs.Str.{is_utf8}
use Rattle.load_model.specs.Opening.{IsFew}
use Rattle.load_model.specs.declared.asks.Ask.{Ask}
use Rattle.load_model.specs.declared.faces.Face.{Face}
use Rattle.path_text.specs.Path.{has_nul}

-- A text that names a file, as a string table has it.
abbrev pub is_name_text : List ℕ → Bool
is_name_text text = is_utf8 text && not (has_nul text)

abbrev pub is_name_or_none : Option (List ℕ) → Bool
is_name_or_none None = true
is_name_or_none (Some text) = is_name_text text

abbrev pub files_asked : List Ask → List (List ℕ)
files_asked asks = map (λ ask. ask.file) asks

-- A file has a face only where its names are texts.
pub record HasTextNames (face : Face) : Type 0 where
  pub interp : is_name_or_none face.interp ≡ true
  pub needs : list_all is_name_text face.needs ≡ true
  pub soname : is_name_or_none face.soname ≡ true
  pub rpath : is_name_or_none face.rpath ≡ true
  pub runpath : is_name_or_none face.runpath ≡ true
  pub files : list_all is_name_text (files_asked face.asks) ≡ true

-- The face of a file for this machine.
pub record IsFaceFor (machine : ℕ) (face : Face) : Type 0 where
  pub names : HasTextNames face
  pub machine_is : face.machine ≡ machine
  pub few : IsFew face
