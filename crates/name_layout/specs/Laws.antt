-- What holds of all names that are given.
use Rattle.std.specs.Prelude.{ℕ, List, ◌≡◌, false, All, IfSome, IsUtf8}
use Rattle.path_text.specs.Path.{IsNormalPath}
use Rattle.lib_closure.specs.declared.splits.Split.{Split}
use Rattle.listed_runs.specs.Fitting.{is_on_list}
use Rattle.load_model.specs.declared.faces.Face.{Face}

-- None of them is on the host list.
abbrev pub AreOffList : List (List ℕ) → List (List ℕ) → Type 0
AreOffList names layout = All (λ name. is_on_list names name ≡ false) layout

-- Keys are texts: sonames are, and paths are in normal form.
pub record HaveTextKeys (faces : List Face) (split : Split) : Type 0 where
  pub sonames : All (λ face. IfSome face.soname IsUtf8) faces
  pub paths : All (λ lib. IsNormalPath lib.path) split.libs
