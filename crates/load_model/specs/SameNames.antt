-- The same load list in another world, for a list in which each request goes to an object by its
-- name. 'Here' is the world of the list, 'there' the other one.
use Rattle.std.specs.Prelude.{ℕ, List, [], ◌∷◌, ◌≡◌, ◌≢◌, ◌<◌, ◌⊎◌, All, Option, Some, None, Result, Ok, Err, map, slice_get}
use Rattle.std.specs.Option.{unwrap_or}
use Rattle.byte_view.specs.declared.flaws.Flaw.{Flaw}
use Rattle.path_text.specs.FileName.{IsFileName}
use Rattle.path_text.specs.Path.{IsNormalPath, base_of}
use Rattle.load_model.specs.Candidates.{IsOpenedIn, first_decision, listed_candidates}
use Rattle.load_model.specs.Joined.{joined}
use Rattle.load_model.specs.LoadList.{Object, Asked, Loaded, GoesByKey}
use Rattle.load_model.specs.Loads.{IsLoadList}
use Rattle.load_model.specs.World.{World, Absent, IsPassed, file_at, kind_of}
use Rattle.load_model.specs.declared.faces.Face.{Face}
use Rattle.load_model.specs.declared.refusals.LoadRefusal.{LoadRefusal}
use Rattle.load_model.specs.declared.setting.Setting.{Setting}
use Rattle.load_model.specs.declared.world.WorldFile.{WorldFile}

-- The key of an object: its soname, or else the last part of its path.
unfoldable pub key_of : Object → List ℕ
key_of o = unwrap_or o.face.soname (base_of o.path)

-- An object without run paths.
pub record HasNoRunPath (o : Object) : Type 0 where
  pub rpath : o.face.rpath ≡ None
  pub runpath : o.face.runpath ≡ None

-- What must hold of a load list here.
pub record IsByNames (loaded : Loaded) : Type 0 where
  -- so that no name is known for the program
  pub soname : (o : Object) → slice_get loaded.objs 0 ≡ Some o → o.face.soname ≡ None
  -- so that its copy looks in the listed directories alone
  pub run_path : (o : Object) → slice_get loaded.objs 0 ≡ Some o → HasNoRunPath o
  -- so that the names tell the targets
  pub goes : GoesByKey key_of loaded.objs loaded.log
  -- so that each name is looked for, in the listed directories
  pub names : (m : ℕ) (a : Asked) → slice_get loaded.log m ≡ Some a → IsFileName a.request.name

-- The copy of the program, as an object.
abbrev pub copied : WorldFile → Object → Object
copied copy program = record { path = copy.path; id = copy.id; face = program.face }

-- The object that is found, where one is.
abbrev pub found_instead : Object → Option (Result Object LoadRefusal) → Object
found_instead o None = o
found_instead o (Some (Err refusal)) = o
found_instead o (Some (Ok there)) = there

module _ (read : List ℕ → Result Face Flaw) (setting : Setting) (world : World) where
  -- What the listed directories of a setting have for a name: what the first candidate decides that
  -- decides.
  abbrev pub listed_decision : List ℕ → Option (Result Object LoadRefusal)
  listed_decision name = first_decision read setting world (listed_candidates setting name)

  -- The object there in the place of one from here, and the objects there: the copy, and one for
  -- each other object.
  abbrev pub object_there : Object → Object
  object_there o = found_instead o (listed_decision (key_of o))

  abbrev pub objects_there : WorldFile → List Object → List Object
  objects_there copy [] = []
  objects_there copy (program ∷ objs) = copied copy program ∷ map object_there objs

  -- What is loaded there, with the targets from here.
  abbrev pub loaded_there : WorldFile → Loaded → Loaded
  loaded_there copy loaded = record { objs = objects_there copy loaded.objs; log = loaded.log }

  -- The listed directories there have an object in the place of this one.
  pub record HasObject (o : Object) : Type 0 where
    pub there : Object
    -- its key finds it
    pub found : listed_decision (key_of o) ≡ Some (Ok there)
    -- it needs the same, in the same order
    pub needs : there.face.needs ≡ o.face.needs
    -- it is known by no other name
    pub soname : (s : List ℕ) → there.face.soname ≡ Some s → s ≡ key_of o
    -- it looks in the listed directories alone
    pub run_path : HasNoRunPath there

  -- A copy of the program lies there in a place under a name, and the listed directories have an
  -- object for each other object from here. What else lies in the place is not spoken of: no search
  -- looks there.
  pub record IsCarried (start : WorldFile) (objs : List Object) (place name : List ℕ)
      (copy : WorldFile) : Type 0 where
    -- a directory joined with a name tells which directory it was
    pub dirs_normal : All IsNormalPath setting.dirs
    pub place_normal : IsNormalPath place
    pub name_is : IsFileName name
    -- the copy has the bytes of the program, so it starts and needs the same
    pub lies : file_at world (joined place name) ≡ Some copy
    pub bytes : copy.bytes ≡ start.bytes
    -- the copy is a file of its own, and no listed directory is the place: so no name goes to the
    -- copy
    pub own : (i : ℕ) (f : WorldFile) → slice_get world i ≡ Some f → f.id ≡ copy.id
        → f.path ≡ copy.path
    pub apart : (i : ℕ) (dir : List ℕ) → slice_get setting.dirs i ≡ Some dir → dir ≢ place
    -- each other object has one there
    pub files : (j : ℕ) (o : Object) → 0 < j → slice_get objs j ≡ Some o → HasObject o
    -- and no two of these are one file
    pub ids :
        (i j : ℕ) (x y : Object) (p q : Object) → 0 < i → 0 < j → slice_get objs i ≡ Some x
        → slice_get objs j ≡ Some y
        → listed_decision (key_of x) ≡ Some (Ok p) → listed_decision (key_of y) ≡ Some (Ok q)
        → p.id ≡ q.id → i ≡ j

  -- The request went to what the listed directories have for its name.
  pub record GoesToListed (run : Loaded) (asked : Asked) : Type 0 where
    pub object : Object
    pub target : slice_get run.objs asked.target ≡ Some object
    pub found : listed_decision asked.request.name ≡ Some (Ok object)

  -- The path is a listed directory joined with the name, something lies there, and no directory
  -- before it decides.
  pub record IsListedUpTo (name path : List ℕ) : Type 0 where
    pub number : ℕ
    pub dir : List ℕ
    pub listed : slice_get setting.dirs number ≡ Some dir
    pub joined_is : path ≡ joined dir name
    pub present : kind_of read setting.machine world path ≢ Absent
    pub before : (i : ℕ) (d : List ℕ) → i < number → slice_get setting.dirs i ≡ Some d
        → IsPassed (kind_of read setting.machine world (joined d name))

  -- The path is the copy's, or that of a file up to the deciding one for a name that was asked for
  -- here.
  abbrev pub IsCopyOrAskedFor : List ℕ → List Asked → List ℕ → Type 0
  IsCopyOrAskedFor copy log path =
      (path ≡ copy) ⊎ ((m : ℕ) × (a : Asked) × (slice_get log m ≡ Some a) × IsListedUpTo
      a.request.name path)

  -- The copy loads the same there.
  pub record LoadsAlike (loaded : Loaded) (copy : WorldFile) : Type 0 where
    -- the copy, followed by the objects of the same names in the same order, with equal targets
    pub list : IsLoadList read setting world copy.path [] (loaded_there copy loaded)
        (loaded_there copy loaded ∷ [])
    -- whatever is asked for goes to what the listed directories have for its name
    pub goes : (m : ℕ) (a : Asked) → slice_get loaded.log m ≡ Some a
        → GoesToListed (loaded_there copy loaded) a
    -- and nothing is opened but the copy and, for each name that was asked for here, the files up
    -- to the deciding one
    pub opens : (path : List ℕ)
        → IsOpenedIn read setting world copy.path (loaded_there copy loaded) path
        → IsCopyOrAskedFor copy.path loaded.log path
