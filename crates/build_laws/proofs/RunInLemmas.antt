-- A run of a build: its objects are those of its load list, and files of the world.
use Rattle.std.proofs.Common.{◌≡◌, ◌∙◌, sym, ap, ℕ, List, Some, slice_get}
use Rattle.std.specs.List.{Contains}
use Rattle.app_config.specs.declared.config.Config.{Config}
use Rattle.build_plan.specs.Building.{Building}
use Rattle.build_runs.specs.BuildRuns.{IsFileIn}
use Rattle.build_runs.specs.declared.programs.Start.{Start}
use Rattle.build_runs.proofs.FileLemmas.{file_of_object}
use Rattle.build_plan.specs.Building.{starts_of}
use Rattle.lib_closure.proofs.ContainedLemmas.{at_place}
use Rattle.load_model.specs.LoadList.{Loaded, Object}
use Rattle.load_model.specs.Runs.{IsRunOf}
use Rattle.load_model.specs.World.{World}
use Rattle.load_model.specs.declared.faces.Face.{Face}
use Rattle.load_model.specs.declared.runs.Obj.{Obj}
use Rattle.load_model.specs.declared.runs.Run.{Run}
use Rattle.load_model.proofs.SameListLemmas.{there_too}
use Rattle.build_laws.specs.BuiltRuns.{IsRunIn}

-- An object of a run, beside the one of its load list.
pub record IsObjHere (faces : List Face) (run : Run) (j : ℕ) (o : Object) : Type 0 where
  pub obj : Obj
  pub stands : slice_get run.objs j ≡ Some obj
  pub id : obj.id ≡ o.id
  pub path : obj.path ≡ o.path
  pub face : slice_get faces obj.face ≡ Some o.face

obj_of : (faces : List Face) (opens : List (List ℕ)) (loaded : Loaded) (ends : List Loaded) (run : Run) → IsRunOf faces opens loaded ends run → (j : ℕ) (o : Object) → slice_get loaded.objs j ≡ Some o → IsObjHere faces run j o
obj_of faces opens loaded ends run is j o h =
    let x = there_too loaded.objs run.objs j o is.count h in
    let w = is.objs j x.0 x.1 in
    let both : Some w.object ≡ Some o = sym w.stands ∙ h in
    let one : w.object ≡ o = cc in
    record {
      obj = x.0;
      stands = x.1;
      id = w.id ∙ ap (λ (p : Object). p.id) one;
      path = w.path ∙ ap (λ (p : Object). p.path) one;
      face = w.face ∙ ap (λ (p : Object). Some p.face) one;
    }

module _ (world : World) (config : Config) (b : Building) (number : ℕ) (start : Start) (run : Run) (path : List ℕ) (at : IsRunIn world config b number start run path) where
  pub run_there : Contains b.runs run
  run_there = at_place b.runs number run at.is.runs

  pub obj_here : (j : ℕ) (o : Object) → slice_get at.plays.loads.loaded.objs j ≡ Some o → IsObjHere b.faces run j o
  obj_here j o h = obj_of b.faces start.opens at.plays.loads.loaded at.plays.loads.ends run at.plays.loads.run_is j o h

  pub file_here : (j : ℕ) (x : Obj) → slice_get run.objs j ≡ Some x → IsFileIn world b.faces x
  file_here j x h = file_of_object config.setting world (starts_of config) b.faces b.runs number j run x at.builds.runs at.is.runs h
