-- What a load in progress stands for, and what its steps answer.
use Rattle.std.specs.Prelude.{ℕ, suc, ◌+◌, List, [], ◌∷◌, ◌++◌, true, ◌==◌, ◌≡◌, ◌<◌, ◌≤◌, Some, Result, Ok, Err, All, drop, length, slice_get, take}
use Rattle.std.specs.List.{list_any}
use Rattle.answers.specs.Faults.{Rose}
use Rattle.answers.specs.Told.{WhereTold}
use Rattle.load_model.specs.Candidates.{path_by}
use Rattle.load_model.specs.Faces.{face_or_flaw}
use Rattle.load_model.specs.LoadList.{Asked, Brought, Found, Known, Loaded, Object, Request, first_place, is_known, walk, with_found}
use Rattle.load_model.specs.Loads.{goes_to, program_at}
use Rattle.load_model.specs.Opening.{OpenerView}
use Rattle.load_model.specs.Runs.{AreBelow, AreObjects, loader_of}
use Rattle.load_model.specs.declared.faces.Face.{Face}
use Rattle.load_model.specs.declared.limits.TheConstants.{MOST_OBJECTS}
use Rattle.load_model.specs.declared.runs.Obj.{Obj}
use Rattle.load_model.specs.declared.setting.Setting.{Setting}
use Rattle.load_requests.specs.Known.{AreIds, first_known}
use Rattle.load_requests.specs.Loading.{IsRead, IsRefusedBy, refusal_of}
use Rattle.load_requests.specs.declared.loading.Loading.{Loading}
use Rattle.load_requests.specs.declared.stops.LoadStop.{LoadStop}

-- These objects, and these requests with their targets, are what is loaded: the objects with what a
-- loader sees of each, each name with the first object that is known by it, each object with its
-- loader; each but the program is the target of a request.
pub record Stands (faces : List Face) (s : Loading) (loaded : Loaded) : Type 0 where
  pub objects : AreObjects faces s.objs loaded.objs
  pub names : (n : List ℕ)
      → first_known n s.known ≡ first_place (is_known loaded.log n) 0 loaded.objs
  pub loaders : (j : ℕ) (x : Obj) → slice_get s.objs j ≡ Some x → x.loader ≡ loader_of loaded.log j
  pub within : All (λ a. a.target < length loaded.objs) loaded.log
  pub brought : (j : ℕ) → 0 < j → j < length loaded.objs
      → list_any (λ a. a.target == j) loaded.log ≡ true

-- All numbers are in range, and each identity leads to its object, whatever was read.
pub record IsSafe (faces : List Face) (s : Loading) : Type 0 where
  pub program : 0 < length s.objs
  pub few : length s.objs ≤ MOST_OBJECTS
  pub known : (n : List ℕ) (j : ℕ) → first_known n s.known ≡ Some j → j < length s.objs
  pub ids : AreIds s.ids s.objs
  pub faces_within : All (λ x. x.face < length faces) s.objs
  pub own : (x : Obj) → slice_get s.objs 0 ≡ Some x → x.loader ≡ 0
  pub smaller : (j : ℕ) (x : Obj) → 0 < j → slice_get s.objs j ≡ Some x → x.loader < j
  pub phases : All (λ x. x.phase ≤ s.phase) s.objs
  pub walked : length s.targets ≤ length s.objs
  pub targets : All (AreBelow (length s.objs)) s.targets
  pub counts : (k : ℕ) (x : Obj) (face : Face) (ts : List ℕ) → slice_get s.objs k ≡ Some x
      → slice_get faces x.face ≡ Some face → slice_get s.targets k ≡ Some ts
      → length ts ≡ length face.needs

-- A request leaves the objects so far at their numbers, the targets and the phase.
pub record IsAsking (before after : Loading) : Type 0 where
  pub objs : take (length before.objs) after.objs ≡ before.objs
  pub longer : length before.objs ≤ length after.objs
  pub targets : after.targets ≡ before.targets
  pub phase : after.phase ≡ before.phase
  pub new_phase : (j : ℕ) (x : Obj) → length before.objs ≤ j → slice_get after.objs j ≡ Some x
      → x.phase ≡ before.phase

-- A walk leaves the objects and targets so far, and asks for the needs of all objects.
pub record IsWalking (before after : Loading) : Type 0 where
  pub objs : take (length before.objs) after.objs ≡ before.objs
  pub longer : length before.objs ≤ length after.objs
  pub targets : take (length before.targets) after.targets ≡ before.targets
  pub all : length after.targets ≡ length after.objs
  pub phase : after.phase ≡ before.phase
  pub new_phase : (j : ℕ) (x : Obj) → length before.objs ≤ j → slice_get after.objs j ≡ Some x
      → x.phase ≡ before.phase

-- The path of the program.
abbrev pub start_path : Loaded → List ℕ
start_path loaded = path_by (slice_get loaded.objs 0)

-- The number of the object that a request goes to.
abbrev pub number_of : Loaded → Found → ℕ
number_of loaded (Known j) = j
number_of loaded (Brought o) = length loaded.objs

-- What asking for a name answers: the object that the request goes to, or the stop of the list
-- there.
abbrev pub IsAskedFor : Setting → OpenerView → OpenerView → Loading → Loaded → Request
    → Result ℕ LoadStop → Type 0
IsAskedFor setting before after new loaded r (Ok t) =
    (found : Found) × (t ≡ number_of loaded found)
    × Stands after.faces new (with_found loaded r found)
    × WhereTold before.told (λ world. goes_to face_or_flaw setting world (start_path loaded)
    loaded.objs loaded.log r ≡ Ok found)
IsAskedFor setting before after new loaded r (Err stop) =
    WhereTold before.told (λ world. IsRefusedBy (λ refusal. goes_to face_or_flaw setting world
    (start_path loaded) loaded.objs loaded.log r ≡ Err refusal) (refusal_of stop))
    × (IsRead stop → Rose before.faults after.faults)

-- The requests for the needs of objects from a number on, each with its target.
abbrev pub asked_to : ℕ → List (List ℕ) → List ℕ → List Asked
asked_to k [] ts = []
asked_to k (n ∷ ns) [] = []
asked_to k (n ∷ ns) (t ∷ ts) =
    record { request = record { by = k; name = n }; target = t } ∷ asked_to k ns ts

abbrev pub needs_asked : ℕ → List Object → List (List ℕ) → List Asked
needs_asked k [] tss = []
needs_asked k (o ∷ os) [] = []
needs_asked k (o ∷ os) (ts ∷ tss) = asked_to k o.face.needs ts ++ needs_asked (suc k) os tss

-- What a walk from the first object whose needs are not asked for answers: what is loaded at the
-- end of the phase, or the stop of the list there. `more` bounds the number of objects that are
-- walked.
pub record IsWalkedTo (setting : Setting) (before after : OpenerView) (old new : Loading)
    (loaded : Loaded) : Type 0 where
  pub end : Loaded
  pub stands : Stands after.faces new end
  pub log : end.log ≡ loaded.log
      ++ needs_asked (length old.targets) (drop (length old.targets) end.objs)
      (drop (length old.targets) new.targets)
  pub recursion : (more : ℕ) → MOST_OBJECTS ≤ length old.targets + more
      → WhereTold before.told
      (λ world. walk (goes_to face_or_flaw setting world (start_path loaded)) more
      (length old.targets) loaded ≡ Ok end)

abbrev pub IsWalked : Setting → OpenerView → OpenerView → Loading → Loading → Loaded
    → Result Unit LoadStop → Type 0
IsWalked setting before after old new loaded (Ok done) =
    IsWalkedTo setting before after old new loaded
IsWalked setting before after old new loaded (Err stop) =
    ((more : ℕ) → MOST_OBJECTS ≤ length old.targets + more
    → WhereTold before.told
    (λ world. IsRefusedBy
    (λ refusal. walk (goes_to face_or_flaw setting world (start_path loaded)) more
    (length old.targets) loaded ≡ Err refusal) (refusal_of stop)))
    × (IsRead stop → Rose before.faults after.faults)

-- The load list of the program alone, or why it does not start.
abbrev pub IsStarted : Setting → OpenerView → OpenerView → List ℕ → Result Loading LoadStop → Type 0
IsStarted setting before after path (Ok s) =
    (program : Object) × (program.path ≡ path)
    × Stands after.faces s (record { objs = program ∷ []; log = [] })
    × WhereTold before.told (λ world. program_at face_or_flaw setting world path ≡ Ok program)
IsStarted setting before after path (Err stop) =
    WhereTold before.told (λ world. IsRefusedBy (λ refusal. program_at face_or_flaw setting world
    path ≡ Err refusal) (refusal_of stop))
    × (IsRead stop → Rose before.faults after.faults)

-- The program alone, no need asked for, in the start phase.
pub record IsAlone (s : Loading) : Type 0 where
  pub objs : length s.objs ≡ 1
  pub targets : s.targets ≡ []
  pub phase : s.phase ≡ 0
