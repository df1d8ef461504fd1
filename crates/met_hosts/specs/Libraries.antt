-- The files of the libraries of a record on a host.
use Rattle.std.specs.Prelude.{ℕ, List, ◌≡◌, ◌<◌, Some, Ok, slice_get}
use Rattle.host_record.specs.declared.records.RecLib.{RecLib}
use Rattle.load_model.specs.Faces.{face_or_flaw}
use Rattle.load_model.specs.LoadList.{Object}
use Rattle.load_model.specs.SameNames.{HasNoRunPath, listed_decision}
use Rattle.load_model.specs.World.{World}
use Rattle.load_model.specs.declared.setting.Setting.{Setting}

module _ (setting : Setting) (world : World) where
  -- The listed directories have the object for this name.
  abbrev pub IsListed : List ℕ → Object → Type 0
  IsListed name q = listed_decision face_or_flaw setting world name ≡ Some (Ok q)

  -- They have one for a library, which is known by no other name, has no run path, and needs what is
  -- recorded.
  pub record HasLibrary (lib : RecLib) : Type 0 where
    pub it : Object
    pub found : IsListed lib.name it
    pub soname : (s : List ℕ) → it.face.soname ≡ Some s → s ≡ lib.name
    pub run_path : HasNoRunPath it
    pub needs : it.face.needs ≡ lib.needs

  -- Those of two libraries are two files.
  abbrev pub AreApart : List RecLib → Type 0
  AreApart libs =
      (i j : ℕ) (x y : RecLib) (p q : Object) → i < j → slice_get libs i ≡ Some x
      → slice_get libs j ≡ Some y → IsListed x.name p → IsListed y.name q → p.id ≡ q.id → ⊥
