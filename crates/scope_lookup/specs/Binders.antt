-- What a binder binds the references of, and what it keeps.
use Rattle.std.specs.Prelude.{List, ◌≡◌, Option, map}
use Rattle.load_model.specs.Bindings.{offered_by}
use Rattle.load_model.specs.Offers.{Offered}
use Rattle.load_model.specs.Opening.{AreFew}
use Rattle.load_model.specs.Runs.{IsRunOver}
use Rattle.load_model.specs.declared.faces.Face.{Face}
use Rattle.load_model.specs.declared.runs.Def.{Def}
use Rattle.load_model.specs.declared.runs.Run.{Run}
use Rattle.scope_lookup.specs.Finding.{AreFoundGlobally}
use Rattle.scope_lookup.specs.declared.wanting.Wanted.{Wanted}

-- A binder tells its run and the faces of this.
pub record BinderView : Type 0 where
  pub faces : List Face
  pub run : Run

-- The index tells of each face of the run what offers depend on, and what is kept was found by it.
pub record KeepsFound (faces : List Face) (index : List Offered) (run : Run)
    (kept : List (Wanted × Option Def)) : Type 0 where
  pub over : IsRunOver faces run
  pub few : AreFew faces
  pub tells : index ≡ map offered_by faces
  pub found : AreFoundGlobally index run kept
