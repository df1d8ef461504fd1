-- Objects of the runs of a build are files of the world, and those of one identity are alike.
use Rattle.std.proofs.Common.{◌≡◌, ◌∙◌, sym, ap, ℕ, List, false, Some, Ok, slice_get}
use Rattle.std.specs.List.{Contains}
use Rattle.app_config.specs.declared.config.Config.{Config}
use Rattle.build_plan.specs.Building.{Building, starts_of}
use Rattle.build_runs.specs.BuildRuns.{IsRunFor}
use Rattle.build_runs.specs.declared.programs.Start.{Start}
use Rattle.build_runs.proofs.ZipLemmas.{zip_back}
use Rattle.lib_closure.proofs.ContainedLemmas.{place_of}
use Rattle.load_model.specs.Escaping.{AreBytes}
use Rattle.load_model.specs.Faces.{face_or_flaw}
use Rattle.load_model.specs.World.{World, file_at, is_other}
use Rattle.load_model.specs.declared.faces.Face.{Face}
use Rattle.load_model.specs.declared.runs.Obj.{Obj}
use Rattle.load_model.specs.declared.runs.Run.{Run}
use Rattle.load_model.specs.declared.world.WorldFile.{WorldFile}
use Rattle.moved_runs.proofs.SearchLemmas.{find_at}
use Rattle.object_changes.proofs.StandingLemmas.{all_at}
use Rattle.build_laws.specs.BuiltRuns.{IsRunIn}
use Rattle.build_laws.proofs.LoadedLemmas.{right_file}

-- An object over a table of faces is a file of the world, for this machine.
pub record IsRightObj (world : World) (machine : ℕ) (faces : List Face) (x : Obj) : Type 0 where
  pub file : WorldFile
  pub lies : file_at world x.path ≡ Some file
  pub id : file.id ≡ x.id
  pub seen : Face
  pub stands : slice_get faces x.face ≡ Some seen
  pub reads : face_or_flaw file.bytes ≡ Ok seen
  pub right : is_other machine file.bytes ≡ false
  pub are_bytes : AreBytes file.bytes

module _ (world : World) (config : Config) (b : Building) (number : ℕ) (start : Start) (run : Run) (path : List ℕ) (at : IsRunIn world config b number start run path) where
  bytes_of_file : (p : List ℕ) (f : WorldFile) → file_at world p ≡ Some f → AreBytes f.bytes
  bytes_of_file p f lies =
      let w = find_at p world f lies in
      all_at (λ (g : WorldFile). AreBytes g.bytes) world w.0 f at.source.bytes w.1

  pub right_obj : (r : Run) (x : Obj) → Contains b.runs r → Contains r.objs x → IsRightObj world config.setting.machine b.faces x
  right_obj r x c d =
      let w = zip_back (IsRunFor config.setting world b.faces) (starts_of config) b.runs c.0 r at.builds.runs.each (place_of b.runs r c) in
      let loads = w.2.loads in
      let is = loads.run_is.objs d.0 x (place_of r.objs x d) in
      let f = right_file face_or_flaw config.setting world w.0.path w.0.opens loads.loaded loads.ends loads.list d.0 is.object is.stands in
      let lies : file_at world x.path ≡ Some f.file = ap (file_at world) is.path ∙ f.lies in
      record {
        file = f.file;
        lies = lies;
        id = f.id ∙ sym is.id;
        seen = is.object.face;
        stands = is.face;
        reads = f.reads;
        right = f.right;
        are_bytes = bytes_of_file x.path f.file lies;
      }

  -- Objects of one identity have the same bytes, and so the same face.
  pub same_file : (x y : Obj) (v : IsRightObj world config.setting.machine b.faces x) (w : IsRightObj world config.setting.machine b.faces y) → x.id ≡ y.id → v.file.bytes ≡ w.file.bytes
  same_file x y v w same =
      let i = find_at x.path world v.file v.lies in
      let j = find_at y.path world w.file w.lies in
      at.source.world_is.same_bytes i.0 j.0 v.file w.file i.1 j.1 (v.id ∙ same ∙ sym w.id)

  pub same_face : (x y : Obj) (v : IsRightObj world config.setting.machine b.faces x) (w : IsRightObj world config.setting.machine b.faces y) → x.id ≡ y.id → v.seen ≡ w.seen
  same_face x y v w same =
      let both : Ok v.seen ≡ Ok w.seen = sym v.reads ∙ ap face_or_flaw (same_file x y v w same) ∙ w.reads in
      cc
