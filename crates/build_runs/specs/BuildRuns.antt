-- The runs of all programs of a build over one table of faces.
use Rattle.std.specs.Prelude.{ℕ, List, ◌≡◌, Some, None, Ok, length, map, slice_get}
use Rattle.std.specs.List.{AllZip, flat_map}
use Rattle.load_model.specs.Faces.{face_or_flaw}
use Rattle.load_model.specs.LoadList.{up_to}
use Rattle.load_model.specs.Replays.{Loads}
use Rattle.load_model.specs.VersionCheck.{first_unmet}
use Rattle.load_model.specs.World.{World, file_at}
use Rattle.load_model.specs.declared.faces.Face.{Face}
use Rattle.load_model.specs.declared.runs.Obj.{Obj}
use Rattle.load_model.specs.declared.runs.Run.{Run}
use Rattle.load_model.specs.declared.setting.Setting.{Setting}
use Rattle.load_model.specs.declared.world.WorldFile.{WorldFile}
use Rattle.build_runs.specs.declared.programs.Start.{Start}

-- The places of the faces of all objects, by run and load order.
abbrev pub places_in : List Obj → List ℕ
places_in objs = map (λ x. x.face) objs

abbrev pub face_places : List Run → List ℕ
face_places runs = flat_map (λ run. places_in run.objs) runs

-- The table has the faces of the objects of the runs alone, in their order.
abbrev pub IsTableInOrder : List Face → List Run → Type 0
IsTableInOrder faces runs = face_places runs ≡ up_to (length faces)

module _ (setting : Setting) (world : World) where
  -- The run is the load list of the program over these faces, and its versions are met.
  pub record IsRunFor (faces : List Face) (program : Start) (run : Run) : Type 0 where
    pub loads : Loads face_or_flaw setting world faces program.path program.opens run
    pub met : first_unmet faces run ≡ None

  -- Each program has its run over the faces, which are those of the objects, in order.
  pub record AreRuns (programs : List Start) (faces : List Face) (runs : List Run) : Type 0 where
    pub each : AllZip (IsRunFor faces) programs runs
    pub in_order : IsTableInOrder faces runs

-- An object of a run over these faces is a file of the world: at its path, of its identity, and
-- with the face that is read of its bytes.
pub record IsFileIn (world : World) (faces : List Face) (x : Obj) : Type 0 where
  pub file : WorldFile
  pub lies : file_at world x.path ≡ Some file
  pub id : file.id ≡ x.id
  pub face : Face
  pub stands : slice_get faces x.face ≡ Some face
  pub reads : face_or_flaw file.bytes ≡ Ok face
