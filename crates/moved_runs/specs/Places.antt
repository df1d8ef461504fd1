-- What must hold of a place in another world, so that a moved program finds its libraries there:
-- bundled ones in the directory, host libraries in the listed directories. `run` is the load list
-- here, `objs_there` are the objects there in the place of its objects, `name_of` gives the names
-- by which they are asked for, and `is_bundled` tells which of them lie in the directory.
use Rattle.std.specs.Prelude.{ℕ, List, ◌≡◌, ◌≢◌, ◌<◌, ◌⊎◌, All, Bool, true, false, Some, None, Result, Ok, IsUtf8, length, slice_get}
use Rattle.std.specs.List.{flat_map}
use Rattle.byte_view.specs.declared.flaws.Flaw.{Flaw}
use Rattle.path_text.specs.FileName.{IsFileName}
use Rattle.path_text.specs.Path.{IsNormalPath, folder_of}
use Rattle.load_model.specs.Candidates.{candidate_in}
use Rattle.load_model.specs.Joined.{joined}
use Rattle.load_model.specs.LoadList.{Object, Asked, Loaded}
use Rattle.load_model.specs.RunPaths.{Folder, items_of}
use Rattle.load_model.specs.SameNames.{HasNoRunPath, listed_decision}
use Rattle.load_model.specs.World.{World, file_at, is_other}
use Rattle.load_model.specs.declared.faces.Face.{Face}
use Rattle.load_model.specs.declared.setting.Setting.{Setting}
use Rattle.load_model.specs.declared.world.WorldFile.{WorldFile}
use Rattle.moved_runs.specs.Moved.{AreDistinctNames, NeverProgram, new_names}
use Rattle.moved_runs.specs.Placed.{HasPath, IsPlaced, IsUnder, Item, lib_folder, lib_place}

module _ (read : List ℕ → Result Face Flaw) (setting : Setting) (world : World) (place : List ℕ)
    (items : List Item) where
  -- The object is an item of the directory, under this path.
  pub record IsItem (path : List ℕ) (q : Object) : Type 0 where
    pub number : ℕ
    pub item : Item
    pub is_item : slice_get items number ≡ Some item
    pub path_is : item.path ≡ path
    -- it was found where it lies, and has the identity of its file
    pub lies : q.path ≡ joined place path
    pub id : (file : WorldFile) → file_at world q.path ≡ Some file → file.id ≡ q.id
    -- its bytes are for this machine, and a loader sees its face in them
    pub right : is_other setting.machine item.bytes ≡ false
    pub seen : read item.bytes ≡ Ok q.face

  -- The RUNPATH of an object leads to the folder of libraries and nowhere else, for each file name.
  pub record LeadsToLibs (q : Object) : Type 0 where
    pub runpath : List ℕ
    pub runpath_is : q.face.runpath ≡ Some runpath
    pub leads : (name : List ℕ) → IsFileName name
        → flat_map (candidate_in name) (items_of setting (folder_of q.path) runpath)
        ≡ candidate_in name (Folder (lib_folder place))

  -- A program or bundled library there, in the place of one from here.
  pub record IsWritten (name_of : ℕ → List ℕ) (log : List Asked) (path : List ℕ) (o q : Object) :
      Type 0 where
    pub item : IsItem path q
    -- each need is the name of the object that it went to
    pub needs : q.face.needs ≡ new_names name_of log o.face.needs
    -- it has no RPATH, and a RUNPATH leads to the folder of libraries
    pub rpath : q.face.rpath ≡ None
    pub runpath : (q.face.runpath ≡ None) ⊎ LeadsToLibs q

  -- A host library there, in the place of one from here.
  pub record IsHostFile (name_of : ℕ → List ℕ) (log : List Asked) (name : List ℕ) (o q : Object) :
      Type 0 where
    -- the listed directories have it for its name
    pub found : listed_decision read setting world name ≡ Some (Ok q)
    -- each need is the name of the object that it went to
    pub needs : q.face.needs ≡ new_names name_of log o.face.needs
    -- it looks in the listed directories alone
    pub run_path : HasNoRunPath q

  module _ (name_of : ℕ → List ℕ) (is_bundled : ℕ → Bool) where
    -- The premises, for a program that lies under a path of the directory.
    pub record IsMoved (program : List ℕ) (run : Loaded) (objs_there : List Object) : Type 0 where
      -- a directory joined with a name tells which directory it was
      pub place_normal : IsNormalPath place
      pub dirs_normal : All IsNormalPath setting.dirs
      -- the directory lies at the place, nothing else does, and its files are files of their own
      pub placed : IsPlaced world place items
      -- no listed directory is the place or lies under it
      pub apart : (i : ℕ) (dir : List ℕ) → slice_get setting.dirs i ≡ Some dir
          → (dir ≢ place) × (IsUnder place dir → ⊥)
      -- no request goes to the program
      pub never : NeverProgram run.log
      -- names are file names, and different objects have different ones
      pub names : (j : ℕ) → 0 < j → j < length run.objs → IsFileName (name_of j)
      pub distinct : AreDistinctNames name_of (length run.objs)
      -- the names of bundled libraries are texts
      pub texts : (j : ℕ) → 0 < j → j < length run.objs → is_bundled j ≡ true
          → IsUtf8 (name_of j)
      -- nothing in the folder of libraries has the name of a host library
      pub off_list : (j : ℕ) → 0 < j → j < length run.objs → is_bundled j ≡ false
          → HasPath items (lib_place (name_of j)) → ⊥
      -- and the program is no library
      pub program_apart : (j : ℕ) → 0 < j → j < length run.objs → is_bundled j ≡ true
          → program ≢ lib_place (name_of j)
      -- there is an object for each from here: the program, which has no soname
      pub count : length objs_there ≡ length run.objs
      pub program_is : (o q : Object) → slice_get run.objs 0 ≡ Some o
          → slice_get objs_there 0 ≡ Some q
          → IsWritten name_of run.log program o q × (q.face.soname ≡ None)
      -- the bundled libraries, each under its name
      pub bundled : (j : ℕ) (o q : Object) → 0 < j → is_bundled j ≡ true
          → slice_get run.objs j ≡ Some o → slice_get objs_there j ≡ Some q
          → IsWritten name_of run.log (lib_place (name_of j)) o q
      -- the host libraries, which the host has in its listed directories
      pub hosts : (j : ℕ) (o q : Object) → 0 < j → is_bundled j ≡ false
          → slice_get run.objs j ≡ Some o → slice_get objs_there j ≡ Some q
          → IsHostFile name_of run.log (name_of j) o q
      -- no two of these are one file
      pub host_ids : (i j : ℕ) (x y : Object) → 0 < i → 0 < j → is_bundled i ≡ false
          → is_bundled j ≡ false → slice_get objs_there i ≡ Some x
          → slice_get objs_there j ≡ Some y → x.id ≡ y.id → i ≡ j
      -- a library is known by no soname but its name
      pub sonames : (j : ℕ) (q : Object) (s : List ℕ) → 0 < j → slice_get objs_there j ≡ Some q
          → q.face.soname ≡ Some s → s ≡ name_of j
      -- what asks for a bundled library has a run path to the folder of libraries
      pub askers : (m : ℕ) (a : Asked) (q : Object) → slice_get run.log m ≡ Some a
          → is_bundled a.target ≡ true → slice_get objs_there a.request.by ≡ Some q
          → LeadsToLibs q
