-- The paths that a moved program may open at a place: its own, those of bundled libraries in their
-- folder, and for the names of host libraries those in listed directories. The objects of its run have
-- the numbers below `count`.
use Rattle.std.specs.Prelude.{ℕ, List, ◌≡◌, ◌<◌, ◌⊎◌, Bool, true, false, Result}
use Rattle.byte_view.specs.declared.flaws.Flaw.{Flaw}
use Rattle.load_model.specs.Joined.{joined}
use Rattle.load_model.specs.SameNames.{IsListedUpTo}
use Rattle.load_model.specs.World.{World}
use Rattle.load_model.specs.declared.faces.Face.{Face}
use Rattle.load_model.specs.declared.setting.Setting.{Setting}
use Rattle.moved_runs.specs.Placed.{lib_place}

module _ (read : List ℕ → Result Face Flaw) (setting : Setting) (world : World) (place : List ℕ)
    (name_of : ℕ → List ℕ) (is_bundled : ℕ → Bool) (count : ℕ) where
  -- A bundled library in the folder of libraries.
  pub record IsLibPath (path : List ℕ) : Type 0 where
    pub number : ℕ
    pub some : 0 < number
    pub below : number < count
    pub bundled : is_bundled number ≡ true
    pub path_is : path ≡ joined place (lib_place (name_of number))

  -- The name of a host library in a listed directory, up to the one that decides.
  pub record IsHostPath (path : List ℕ) : Type 0 where
    pub number : ℕ
    pub some : 0 < number
    pub below : number < count
    pub of_host : is_bundled number ≡ false
    pub listed : IsListedUpTo read setting world (name_of number) path

  abbrev pub MayBeOpened : List ℕ → List ℕ → Type 0
  MayBeOpened program path = (path ≡ joined place program) ⊎ (IsLibPath path ⊎ IsHostPath path)
