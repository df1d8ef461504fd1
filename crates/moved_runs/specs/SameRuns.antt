-- Two runs of a program that are the same place by place: its run here, and that of the program
-- that was written for it, at a place of another world.
use Rattle.std.specs.Prelude.{ℕ, List, ◌≡◌, ◌<◌, Bool, true, false, Option, Some, None, Result, Ok, length, slice_get}
use Rattle.byte_view.specs.declared.flaws.Flaw.{Flaw}
use Rattle.load_model.specs.Bindings.{symbol_at, wanted_version}
use Rattle.load_model.specs.Joined.{joined}
use Rattle.load_model.specs.LoadList.{Object}
use Rattle.load_model.specs.Replays.{IsReplay}
use Rattle.load_model.specs.SameNames.{listed_decision}
use Rattle.load_model.specs.World.{World}
use Rattle.load_model.specs.declared.faces.Face.{Face}
use Rattle.load_model.specs.declared.runs.Bind.{Bind}
use Rattle.load_model.specs.declared.runs.Def.{Def}
use Rattle.load_model.specs.declared.runs.Obj.{Obj}
use Rattle.load_model.specs.declared.runs.Replay.{Replay}
use Rattle.load_model.specs.declared.runs.Run.{Run}
use Rattle.load_model.specs.declared.setting.Setting.{Setting}
use Rattle.load_model.specs.declared.symbols.Sym.{Sym}
use Rattle.moved_runs.specs.Alike.{is_written}
use Rattle.moved_runs.specs.Placed.{lib_place}

-- The same reference: a symbol of an object, in a class.
pub record IsSameReference (a b : Bind) : Type 0 where
  pub obj : b.obj ≡ a.obj
  pub sym : b.sym ≡ a.sym
  pub class : b.class ≡ a.class

-- The same name, and the same version or none in both.
pub record IsSameSymbol (s t : Sym) : Type 0 where
  pub name : t.name ≡ s.name
  pub version : wanted_version t.version ≡ wanted_version s.version

module _ (faces faces_there : List Face) (here there : Run) (is_bundled : ℕ → Bool) where
  -- The same object by its number; of a file that is written the same symbol by its index, and of a
  -- host library one of the same name and version.
  pub record IsSameDef (d e : Def) : Type 0 where
    pub obj : e.obj ≡ d.obj
    pub sym : is_written is_bundled d.obj ≡ true → e.sym ≡ d.sym
    pub symbol : is_written is_bundled d.obj ≡ false
        → (s : Sym) × (t : Sym) × (symbol_at faces here d.obj d.sym ≡ Some s)
        × (symbol_at faces_there there e.obj e.sym ≡ Some t) × IsSameSymbol s t

  -- Nothing stands opposite nothing.
  abbrev pub IsSameBound : Option Def → Option Def → Type 0
  IsSameBound None None = Unit {0}
  IsSameBound None (Some e) = ⊥
  IsSameBound (Some d) None = ⊥
  IsSameBound (Some d) (Some e) = IsSameDef d e

module _ (read : List ℕ → Result Face Flaw) (setting : Setting) (world : World) (place : List ℕ)
    (name_of : ℕ → List ℕ) (is_bundled : ℕ → Bool) where
  -- An object of the host: what the listed directories have for this name.
  abbrev pub IsOfHost : List ℕ → Obj → Type 0
  IsOfHost name x =
      (q : Object) × (listed_decision read setting world name ≡ Some (Ok q)) × (x.path ≡ q.path)
      × (x.id ≡ q.id)

  pub record SameRun (program : List ℕ) (faces faces_there : List Face) (here there : Replay) :
      Type 0 where
    -- as many objects
    pub count : length there.run.objs ≡ length here.run.objs
    -- the program stands opposite the one in the directory
    pub program_is : (x : Obj) → slice_get there.run.objs 0 ≡ Some x → x.path ≡ joined place program
    -- a bundled library opposite the file of its name there
    pub bundled : (j : ℕ) (x : Obj) → 0 < j → is_bundled j ≡ true
        → slice_get there.run.objs j ≡ Some x → x.path ≡ joined place (lib_place (name_of j))
    -- a host library opposite the host's file of its name
    pub hosts : (j : ℕ) (x : Obj) → 0 < j → is_bundled j ≡ false
        → slice_get there.run.objs j ≡ Some x → IsOfHost (name_of j) x
    -- and different objects opposite different files
    pub different : (i j : ℕ) (x y : Obj) → slice_get there.run.objs i ≡ Some x
        → slice_get there.run.objs j ≡ Some y → x.id ≡ y.id → i ≡ j
    -- needs go to the objects of the same numbers
    pub targets : there.run.targets ≡ here.run.targets
    -- an object has the loader of the same number, and came in the same phase
    pub loaders : (j : ℕ) (x y : Obj) → slice_get here.run.objs j ≡ Some x
        → slice_get there.run.objs j ≡ Some y → y.loader ≡ x.loader
    pub phases : (j : ℕ) (x y : Obj) → slice_get here.run.objs j ≡ Some x
        → slice_get there.run.objs j ≡ Some y → y.phase ≡ x.phase
    -- the global list, the roots of opened names and their local lists have the same numbers
    pub global : there.run.global ≡ here.run.global
    pub roots : there.run.roots ≡ here.run.roots
    pub locals : there.run.locals ≡ here.run.locals
    -- each reference of the program or a bundled library is one there, and binds to the same
    pub binds : (m : ℕ) (b : Bind) → slice_get here.binds m ≡ Some b
        → is_written is_bundled b.obj ≡ true
        → (n : ℕ) × (c : Bind) × (slice_get there.binds n ≡ Some c) × IsSameReference b c
        × IsSameBound faces faces_there here.run there.run is_bundled b.to c.to

  -- The program in the directory, with these names to open, runs the same there.
  pub record RunsSame (program : List ℕ) (opens : List (List ℕ)) (faces : List Face)
      (here : Replay) : Type 0 where
    pub faces_there : List Face
    pub there : Replay
    pub plays : IsReplay read setting world faces_there (joined place program) opens there
    pub same : SameRun program faces faces_there here there
