-- A load list as the plain type `Run` has it: its objects name their faces by their place in a
-- table.
use Rattle.std.specs.Prelude.{ℕ, zero, suc, List, [], ◌∷◌, ◌≡◌, ◌<◌, ◌≤◌, ◌^◌, cond, Option, Some, None, All, length, map, nat_lt, slice_get, take}
use Rattle.std.specs.List.{flat_map, position_from}
use Rattle.std.specs.Option.{option_and_then, option_map, unwrap_or}
use Rattle.std.specs.Str.{bytes_eq}
use Rattle.load_model.specs.Candidates.{loader_in}
use Rattle.load_model.specs.LoadList.{Asked, Loaded, Object, up_to, with_numbers}
use Rattle.load_model.specs.declared.faces.Face.{Face}
use Rattle.load_model.specs.declared.runs.Obj.{Obj}
use Rattle.load_model.specs.declared.runs.Run.{Run}

-- The face of the object of this number.
abbrev pub face_at : List Face → Run → ℕ → Option Face
face_at faces run j = option_and_then (λ o. slice_get faces o.face) (slice_get run.objs j)

-- These are the objects over a table of faces, with what a loader sees of each.
pub record AreObjects (faces : List Face) (objs : List Obj) (objects : List Object) : Type 0 where
  pub count : length objects ≡ length objs
  pub each : (j : ℕ) (x : Obj) (o : Object) → slice_get objs j ≡ Some x
      → slice_get objects j ≡ Some o → (o.path ≡ x.path) × (o.id ≡ x.id)
      × (slice_get faces x.face ≡ Some o.face)

-- The loader of an object of this number.
abbrev pub loader_by : List Obj → ℕ → ℕ
loader_by objs j = unwrap_or (option_map (λ x. x.loader) (slice_get objs j)) 0

-- Numbers below a bound.
abbrev pub AreBelow : ℕ → List ℕ → Type 0
AreBelow bound numbers = All (λ n. n < bound) numbers

-- The numbers of an object are in range: its face, its loader and its phase.
pub record IsObjOver (faces : List Face) (run : Run) (o : Obj) : Type 0 where
  pub face : o.face < length faces
  pub loader : o.loader < length run.objs
  pub phase : o.phase ≤ length run.opens

-- A run over these faces: its first object is the program, all its numbers are in range, each
-- object has a target for each need of its face, and each opened name has a root and a local list.
pub record IsRunOver (faces : List Face) (run : Run) : Type 0 where
  pub program : 0 < length run.objs
  pub few : length run.objs < 2 ^ 32
  pub objs : All (IsObjOver faces run) run.objs
  pub global : run.global ≤ length run.objs
  pub lists : length run.targets ≡ length run.objs
  pub counts : (j : ℕ) (face : Face) (ts : List ℕ) → face_at faces run j ≡ Some face
      → slice_get run.targets j ≡ Some ts → length ts ≡ length face.needs
  pub targets : All (AreBelow (length run.objs)) run.targets
  pub root_count : length run.roots ≡ length run.opens
  pub roots : AreBelow (length run.objs) run.roots
  pub local_count : length run.locals ≡ length run.opens
  pub locals : All (AreBelow (length run.objs)) run.locals

-- Each loader but the program's, which is its own, has a smaller number.
pub record HasSmallLoaders (run : Run) : Type 0 where
  pub program : (o : Obj) → slice_get run.objs 0 ≡ Some o → o.loader ≡ 0
  pub others : (j : ℕ) (o : Obj) → 0 < j → slice_get run.objs j ≡ Some o → o.loader < j

-- Where the first request of a name went.
unfoldable pub target_in : List Asked → List ℕ → ℕ
target_in [] n = 0
target_in (a ∷ log) n = cond (bytes_eq a.request.name n) a.target (target_in log n)

abbrev pub face_of_object : Option Object → Option Face
face_of_object None = None
face_of_object (Some o) = Some o.face

-- The needs of an object, and where they went.
abbrev pub needs_at : Option Object → List (List ℕ)
needs_at None = []
needs_at (Some o) = o.face.needs

abbrev pub need_targets : Loaded → ℕ → List ℕ
need_targets s k = map (target_in s.log) (needs_at (slice_get s.objs k))

-- The root, and then the targets of the needs of these objects, each at its first occurrence.
abbrev pub reached : Loaded → ℕ → List ℕ → List ℕ
reached s root ks = with_numbers (root ∷ []) (flat_map (need_targets s) ks)

-- A local list: the root, and then the targets of the needs of those in the list, breadth-first;
-- each but the root is a target of one before it.
pub record IsLocal (s : Loaded) (root : ℕ) (ks : List ℕ) : Type 0 where
  pub order : reached s root ks ≡ ks
  pub brought : (i : ℕ) → i < length ks → i < length (reached s root (take i ks))

-- The number of the phase that brought an object: the first at whose end it is loaded.
unfoldable pub phase_of : List Loaded → ℕ → ℕ
phase_of ends j = unwrap_or (position_from (λ end. nat_lt j (length end.objs)) 0 ends) 0

-- The program is its own loader.
abbrev pub loader_of : List Asked → ℕ → ℕ
loader_of log zero = 0
loader_of log (suc j) = loader_in log (suc j)

-- How many objects there are at the end of the first phase.
abbrev pub start_count : List Loaded → ℕ
start_count [] = 0
start_count (end ∷ ends) = length end.objs

-- The object of this number, as the load list has it.
pub record IsObjOf (faces : List Face) (loaded : Loaded) (ends : List Loaded) (j : ℕ) (x : Obj) :
    Type 0 where
  pub object : Object
  pub stands : slice_get loaded.objs j ≡ Some object
  pub path : x.path ≡ object.path
  pub id : x.id ≡ object.id
  pub face : slice_get faces x.face ≡ Some object.face
  pub loader : x.loader ≡ loader_of loaded.log j
  pub phase : x.phase ≡ phase_of ends j

-- The run says this load list, whose phases end so, with these opened names.
pub record IsRunOf (faces : List Face) (opens : List (List ℕ)) (loaded : Loaded)
    (ends : List Loaded) (run : Run) : Type 0 where
  pub count : length run.objs ≡ length loaded.objs
  pub objs : (j : ℕ) (x : Obj) → slice_get run.objs j ≡ Some x → IsObjOf faces loaded ends j x
  pub targets : run.targets ≡ map (need_targets loaded) (up_to (length loaded.objs))
  pub global : run.global ≡ start_count ends
  pub opened : run.opens ≡ opens
  pub roots : run.roots ≡ map (target_in loaded.log) opens
  pub local_count : length run.locals ≡ length opens
  pub locals : (k root : ℕ) (ks : List ℕ) → slice_get run.roots k ≡ Some root
      → slice_get run.locals k ≡ Some ks → IsLocal loaded root ks
