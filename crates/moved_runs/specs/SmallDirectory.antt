-- A small directory at a place of a host: a program, a bundled library that the program opens too,
-- and a library of the host. The program's need of the bundled library is renamed.
use Rattle.std.specs.Prelude.{ℕ, List, [], ◌∷◌, Bool, cond, false, ◌==◌, None, Some, Result, Ok, codes}
use Rattle.std.specs.Str.{bytes_eq}
use Rattle.byte_view.specs.declared.constants.TheConstants.{EM_X86_64}
use Rattle.byte_view.specs.declared.flaws.Flaw.{Flaw}
use Rattle.load_model.specs.Diamond.{asked_for, plain_face}
use Rattle.load_model.specs.LoadList.{Object, Loaded}
use Rattle.load_model.specs.World.{World}
use Rattle.load_model.specs.declared.faces.Face.{Face}
use Rattle.load_model.specs.declared.runs.Obj.{Obj}
use Rattle.load_model.specs.declared.runs.Replay.{Replay}
use Rattle.load_model.specs.declared.setting.Setting.{Setting}
use Rattle.load_model.specs.declared.world.WorldFile.{WorldFile}
use Rattle.moved_runs.specs.Placed.{Item}

-- ---- the program here

abbrev pub object_in : List ℕ → List ℕ → Face → Object
object_in path id face = record { path = path; id = id; face = face }

abbrev pub app_here : Object
app_here = object_in (codes "/app/bin/app") (codes "app") (plain_face None (codes "a1" ∷ codes "h" ∷ []))

abbrev pub lib_here : Object
lib_here = object_in (codes "/app/lib/a1") (codes "a") (plain_face None (codes "h" ∷ []))

abbrev pub host_here : Object
host_here = object_in (codes "/lib/h") (codes "h") (plain_face None [])

-- It opens `a`, which is the library that it needs as `a1`.
abbrev pub small_run : Loaded
small_run = record {
  objs = app_here ∷ lib_here ∷ host_here ∷ [];
  log =
      asked_for 0 (codes "a1") 1 ∷ asked_for 0 (codes "h") 2 ∷ asked_for 1 (codes "h") 2
      ∷ asked_for 0 (codes "a") 1 ∷ [];
}

abbrev pub small_faces : List Face
small_faces = app_here.face ∷ lib_here.face ∷ host_here.face ∷ []

abbrev pub obj_of : Object → ℕ → ℕ → Obj
obj_of o face loader =
    record { path = o.path; id = o.id; face = face; loader = loader; phase = 0 }

abbrev pub small_replay : Replay
small_replay = record {
  run = record {
    objs = obj_of app_here 0 0 ∷ obj_of lib_here 1 0 ∷ obj_of host_here 2 0 ∷ [];
    targets = (1 ∷ 2 ∷ []) ∷ (2 ∷ []) ∷ [] ∷ [];
    global = 3;
    opens = codes "a" ∷ [];
    roots = 1 ∷ [];
    locals = (1 ∷ 2 ∷ []) ∷ [];
  };
  binds = [];
}

-- ---- the directory there

abbrev pub name_of : ℕ → List ℕ
name_of j = cond (j == 1) (codes "a") (codes "h")

abbrev pub is_bundled : ℕ → Bool
is_bundled j = j == 1

abbrev pub app_face : Face
app_face = record {
  machine = EM_X86_64;
  interp = None;
  soname = None;
  needs = codes "a" ∷ codes "h" ∷ [];
  rpath = None;
  runpath = Some (codes "$ORIGIN/usr/lib");
  symbolic = false;
  syms = [];
  versioned = false;
  defs = [];
  asks = [];
}

-- The program holds 0, the bundled library 1, and the host's another number.
abbrev pub read_directory : List ℕ → Result Face Flaw
read_directory bytes =
    cond (bytes_eq bytes (0 ∷ [])) (Ok app_face)
    (cond (bytes_eq bytes (1 ∷ [])) (Ok lib_here.face) (Ok host_here.face))

abbrev pub app_item : Item
app_item = record { path = codes "AppRun"; bytes = 0 ∷ [] }

abbrev pub lib_item : Item
lib_item = record { path = codes "usr/lib/a"; bytes = 1 ∷ [] }

abbrev pub small_items : List Item
small_items = app_item ∷ lib_item ∷ []

abbrev pub app_there : Object
app_there = object_in (codes "/apps/AppRun") (codes "1") app_face

abbrev pub lib_there : Object
lib_there = object_in (codes "/apps/usr/lib/a") (codes "2") lib_here.face

abbrev pub host_there : Object
host_there = object_in (codes "/usr/lib/h") (codes "3") host_here.face

abbrev pub objs_there : List Object
objs_there = app_there ∷ lib_there ∷ host_there ∷ []

abbrev pub file_of : Object → ℕ → WorldFile
file_of o number = record { path = o.path; id = o.id; bytes = number ∷ [] }

abbrev pub small_host : World
small_host = file_of app_there 0 ∷ file_of lib_there 1 ∷ file_of host_there 2 ∷ []

abbrev pub host_setting : Setting
host_setting =
    record { machine = EM_X86_64; dirs = codes "/usr/lib" ∷ []; lib = None; platform = None }
