-- What must hold of the objects there, so that references bind and versions are met as here. Host
-- libraries there are spoken of by what they answer alone.
use Rattle.std.specs.Prelude.{ℕ, List, [], ◌∷◌, ◌≡◌, ◌≢◌, ◌<◌, ◌==◌, ◌||◌, Bool, true, false, Option, Some, slice_get}
use Rattle.std.specs.Option.{option_and_then, option_map}
use Rattle.load_model.specs.Bindings.{binds_itself, looked_in, offered_by, symbol_at, wanted_version}
use Rattle.load_model.specs.LoadList.{Object, Loaded}
use Rattle.load_model.specs.Offers.{offer_of}
use Rattle.load_model.specs.Runs.{need_targets}
use Rattle.load_model.specs.Scopes.{scope_of}
use Rattle.load_model.specs.VersionCheck.{has_defined, version_file_of}
use Rattle.load_model.specs.declared.asks.Ask.{Ask}
use Rattle.load_model.specs.declared.faces.Face.{Face}
use Rattle.load_model.specs.declared.runs.Bind.{Bind}
use Rattle.load_model.specs.declared.runs.Def.{Def}
use Rattle.load_model.specs.declared.runs.Replay.{Replay}
use Rattle.load_model.specs.declared.runs.Run.{Run}
use Rattle.load_model.specs.declared.symbols.Class.{Class}
use Rattle.load_model.specs.declared.symbols.Sym.{Sym}

-- The program and the bundled libraries are written, the others are of the host.
abbrev pub is_written : (ℕ → Bool) → ℕ → Bool
is_written is_bundled j = (j == 0) || is_bundled j

-- ---- what is asked of files that are written

-- The symbols are the same, and where they are looked up.
pub record KeepsSymbols (here there : Face) : Type 0 where
  pub symbolic : there.symbolic ≡ here.symbolic
  pub syms : there.syms ≡ here.syms
  pub versioned : there.versioned ≡ here.versioned
  pub defs : there.defs ≡ here.defs

-- An ask is one from here, by which the object of a number is asked, under its new name.
pub record IsSameAsk (faces : List Face) (run : Run) (name_of : ℕ → List ℕ) (j : ℕ)
    (here there : Ask) : Type 0 where
  pub name : there.name ≡ here.name
  pub weak : there.weak ≡ here.weak
  pub file : (t : ℕ) → version_file_of faces run j here.file ≡ Some t
      → (0 < t) × (there.file ≡ name_of t)

-- ---- looks into host libraries

-- The symbol that a reference finds in a file, and its version, where it has one.
abbrev pub found_in_face : Face → List ℕ → Option (List ℕ) → Class → Option Sym
found_in_face face name version class =
    option_and_then (λ i. slice_get face.syms i) (offer_of (offered_by face) name version class)

abbrev pub version_found : Face → List ℕ → Option (List ℕ) → Class → Option (Option (List ℕ))
version_found face name version class =
    option_map (λ s. wanted_version s.version) (found_in_face face name version class)

-- A reference looks in an object of the scope, where none before it is the one that it binds to.
pub record IsLookedIn (to : Option Def) (scope : List ℕ) (k : ℕ) : Type 0 where
  pub number : ℕ
  pub stands : slice_get scope number ≡ Some k
  pub before : (i h : ℕ) (d : Def) → i < number → slice_get scope i ≡ Some h → to ≡ Some d
      → h ≢ d.obj

-- ---- names that needs lead to

-- An object is reached from another by needs, through these.
abbrev pub IsReached : Loaded → ℕ → List ℕ → ℕ → Type 0
IsReached loaded from [] to = from ≡ to
IsReached loaded from (k ∷ ks) to =
    (e : ℕ) × (slice_get (need_targets loaded from) e ≡ Some k) × IsReached loaded k ks to

-- The version is defined by the object of this number, or it has no definitions.
abbrev pub HasVersion : List Object → ℕ → List ℕ → Type 0
HasVersion objs_there t version =
    (q : Object) → slice_get objs_there t ≡ Some q → has_defined version q.face.defs ≡ true

-- An ask of a host library goes to itself or to what it reaches by needs, and that has the version.
pub record IsOwnAsk (name_of : ℕ → List ℕ) (loaded : Loaded) (objs_there : List Object) (j : ℕ)
    (ask : Ask) : Type 0 where
  pub target : ℕ
  pub through : List ℕ
  pub some : 0 < target
  pub reached : IsReached loaded j through target
  pub named : name_of target ≡ ask.file
  pub met : HasVersion objs_there target ask.name

-- ---- all of it

module _ (faces : List Face) (replay : Replay) (loaded : Loaded) (name_of : ℕ → List ℕ)
    (is_bundled : ℕ → Bool) (objs_there : List Object) where
  -- A reference of an object that is written, which is looked up in a scope.
  pub record IsLookedUp (b : Bind) (s : Sym) : Type 0 where
    pub number : ℕ
    pub stands : slice_get replay.binds number ≡ Some b
    pub written : is_written is_bundled b.obj ≡ true
    pub symbol : symbol_at faces replay.run b.obj b.sym ≡ Some s
    pub not_own : binds_itself b.class s ≡ false

  pub record IsAlike : Type 0 where
    -- files that are written have the symbols from here
    pub symbols : (j : ℕ) (o q : Object) → is_written is_bundled j ≡ true
        → slice_get loaded.objs j ≡ Some o → slice_get objs_there j ≡ Some q
        → KeepsSymbols o.face q.face
    -- and of their asks each that is not weak
    pub asks : (j k : ℕ) (o q : Object) (ask : Ask) → is_written is_bundled j ≡ true
        → slice_get loaded.objs j ≡ Some o → slice_get objs_there j ≡ Some q
        → slice_get q.face.asks k ≡ Some ask → ask.weak ≡ false
        → (here : Ask) × (slice_get o.face.asks k ≡ Some here)
        × IsSameAsk faces replay.run name_of j here ask
    -- where such an ask goes to a host library, that has the version
    pub versions : (j k t : ℕ) (o : Object) (ask : Ask) → is_written is_bundled j ≡ true
        → slice_get loaded.objs j ≡ Some o → slice_get o.face.asks k ≡ Some ask
        → ask.weak ≡ false → version_file_of faces replay.run j ask.file ≡ Some t
        → is_written is_bundled t ≡ false → HasVersion objs_there t ask.name
    -- a host library that a reference looks in answers as here
    pub looks : (b : Bind) (s : Sym) (k : ℕ) (o q : Object) → IsLookedUp b s
        → IsLookedIn b.to (looked_in b.class (scope_of faces replay.run b.obj)) k
        → is_written is_bundled k ≡ false
        → slice_get loaded.objs k ≡ Some o → slice_get objs_there k ≡ Some q
        → version_found q.face s.name (wanted_version s.version) b.class
        ≡ version_found o.face s.name (wanted_version s.version) b.class
    -- and what host libraries ask themselves, but for weak asks, is met among them
    pub own_asks : (j k : ℕ) (q : Object) (ask : Ask) → is_written is_bundled j ≡ false
        → slice_get objs_there j ≡ Some q → slice_get q.face.asks k ≡ Some ask
        → ask.weak ≡ false → IsOwnAsk name_of loaded objs_there j ask
