-- A machine, and the faces of files for it.
use Rattle.std.specs.Prelude.{ℕ, List, ◌≡◌, ◌<◌, ◌^◌, All, length, map}
use Rattle.load_model.specs.Bindings.{offered_by}
use Rattle.load_model.specs.Offers.{Offered}
use Rattle.load_model.specs.declared.faces.Face.{Face}
use Rattle.tree_opener.specs.Names.{IsFaceFor}

pub record MachineFaces : Type 0 where
  pub machine : ℕ
  pub faces : List Face

-- The faces are those of files for the machine, numbers of 32 bits count them, and each has tables
-- that offer what it offers.
pub record AreFacesFor (machine : ℕ) (faces : List Face) (offers : List Offered) : Type 0 where
  pub known : All (IsFaceFor machine) faces
  pub count : length faces < 2 ^ 32
  pub tables : offers ≡ map offered_by faces
