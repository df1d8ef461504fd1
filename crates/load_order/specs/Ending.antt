-- What a load in progress has at the ends of its phases, and what its phases answer.
use Rattle.std.specs.Prelude.{ℕ, suc, ◌+◌, List, [], ◌∷◌, ◌≡◌, ◌<◌, ◌≤◌, All, Option, Some, Result, Ok, Err, length, slice_get, take}
use Rattle.answers.specs.Faults.{Rose}
use Rattle.answers.specs.Told.{WhereTold}
use Rattle.load_model.specs.Faces.{face_or_flaw}
use Rattle.load_model.specs.LoadList.{Asked, Loaded, Object, phase, run, run_ends}
use Rattle.load_model.specs.Loads.{goes_to}
use Rattle.load_model.specs.Opening.{OpenerView}
use Rattle.load_model.specs.Runs.{phase_of, start_count}
use Rattle.load_model.specs.World.{World}
use Rattle.load_model.specs.declared.faces.Face.{Face}
use Rattle.load_model.specs.declared.limits.TheConstants.{MOST_OBJECTS}
use Rattle.load_model.specs.declared.runs.Obj.{Obj}
use Rattle.load_model.specs.declared.setting.Setting.{Setting}
use Rattle.load_requests.specs.Loading.{IsRead, IsRefusedBy, refusal_of}
use Rattle.load_requests.specs.Standing.{Stands, start_path}
use Rattle.load_requests.specs.declared.loading.Loading.{Loading}
use Rattle.load_requests.specs.declared.stops.LoadStop.{LoadStop}

-- The request of an object for a name went to this target.
abbrev pub WentFor : List Asked → ℕ → List ℕ → ℕ → Type 0
WentFor log by name t =
    (m : ℕ) × (slice_get log m ≡ Some (record {
      request = record { by = by; name = name };
      target =
          t;
    }))

-- The targets that are kept of the needs of objects are those of the requests for them.
abbrev pub AreNoted : Loaded → List (List ℕ) → Type 0
AreNoted loaded targets =
    (k : ℕ) (o : Object) (ts : List ℕ) → slice_get loaded.objs k ≡ Some o
    → slice_get targets k ≡ Some ts → (e : ℕ) (n : List ℕ) (t : ℕ)
    → slice_get o.face.needs e ≡ Some n → slice_get ts e ≡ Some t → WentFor loaded.log k n t

-- What was loaded and asked stays in front.
pub record StaysInFront (before after : Loaded) : Type 0 where
  pub objs : (j : ℕ) (o : Object) → slice_get before.objs j ≡ Some o
      → slice_get after.objs j ≡ Some o
  pub log : (m : ℕ) (a : Asked) → slice_get before.log m ≡ Some a → slice_get after.log m ≡ Some a

-- The end of a phase that opens a name.
pub record IsPhaseEnd (setting : Setting) (before after : OpenerView) (old new : Loading)
    (loaded : Loaded) (name : List ℕ) (target : ℕ) : Type 0 where
  pub end : Loaded
  pub stands : Stands after.faces new end
  pub kept : StaysInFront loaded end
  pub noted : AreNoted loaded old.targets → AreNoted end new.targets
  pub root : WentFor end.log 0 name target
  pub recursion : WhereTold before.told
      (λ world. phase (goes_to face_or_flaw setting world (start_path loaded)) MOST_OBJECTS loaded
      (name ∷ []) ≡ Ok end)

-- What opening a name answers: the end of its phase, or the stop of the list there.
abbrev pub IsOpening : Setting → OpenerView → OpenerView → Loading → Loading → Loaded → List ℕ
    → Result ℕ LoadStop → Type 0
IsOpening setting before after old new loaded name (Ok root) =
    IsPhaseEnd setting before after old new loaded name root
IsOpening setting before after old new loaded name (Err stop) =
    WhereTold before.told (λ world. IsRefusedBy (λ refusal. phase (goes_to face_or_flaw setting
    world (start_path loaded)) MOST_OBJECTS loaded (name ∷ []) ≡ Err refusal) (refusal_of stop))
    × (IsRead stop → Rose before.faults after.faults)

-- A phase more: all needs are asked for, the objects so far stay, and each new one has the number
-- of the phase.
pub record IsPhaseMore (old new : Loading) : Type 0 where
  pub objs : take (length old.objs) new.objs ≡ old.objs
  pub longer : length old.objs ≤ length new.objs
  pub all : length new.targets ≡ length new.objs
  pub phase : new.phase ≡ suc old.phase
  pub new_phase : (j : ℕ) (x : Obj) → length old.objs ≤ j → slice_get new.objs j ≡ Some x
      → x.phase ≡ new.phase

-- What is loaded after the start phase and these openings, with what it was at the end of each
-- phase.
pub record IsLoadEnd (setting : Setting) (told : Option World) (faces : List Face) (path : List ℕ)
    (program : Object) (opens : List (List ℕ)) (s : Loading) (numbers : List ℕ) (loaded : Loaded)
    (ends : List Loaded) : Type 0 where
  pub stands : Stands faces s loaded
  pub start : start_path loaded ≡ path
  pub noted : AreNoted loaded s.targets
  pub count : length ends ≡ suc s.phase
  pub last : slice_get ends s.phase ≡ Some loaded
  pub most : (k : ℕ) (end : Loaded) → slice_get ends k ≡ Some end
      → length end.objs ≤ length loaded.objs
  pub phases : (j : ℕ) (x : Obj) → slice_get s.objs j ≡ Some x → x.phase ≡ phase_of ends j
  pub roots : (k : ℕ) (n : List ℕ) (t : ℕ) → slice_get opens k ≡ Some n
      → slice_get numbers k ≡ Some t → WentFor loaded.log 0 n t
  pub recursion : WhereTold told
      (λ world. (run (goes_to face_or_flaw setting world path) MOST_OBJECTS program opens ≡ Ok
      loaded) × (run_ends (goes_to face_or_flaw setting world path) MOST_OBJECTS program opens ≡ Ok
      ends))

-- What opening the names answers: what is loaded at the end, or the stop of the list.
abbrev pub IsOpeningAll : Setting → OpenerView → OpenerView → List ℕ → Object → List (List ℕ)
    → Loading → List Loaded → Result (List ℕ) LoadStop → Type 0
IsOpeningAll setting before after path program opens new starts (Ok roots) =
    (loaded : Loaded) × (ends : List Loaded)
    × IsLoadEnd setting before.told after.faces path program opens new roots loaded ends
    × (start_count ends ≡ start_count starts)
IsOpeningAll setting before after path program opens new starts (Err stop) =
    WhereTold before.told (λ world. IsRefusedBy (λ refusal. run (goes_to face_or_flaw setting world
    path) MOST_OBJECTS program opens ≡ Err refusal) (refusal_of stop))
    × (IsRead stop → Rose before.faults after.faults)

-- The numbers of a load in progress whose needs are all asked for, after as many openings as roots.
pub record IsPhaseReady (old new : Loading) (number : ℕ) (roots : List ℕ) : Type 0 where
  pub all : length new.targets ≡ length new.objs
  pub longer : length old.objs ≤ length new.objs
  pub phase : new.phase ≡ old.phase + number
  pub count : length roots ≡ number
  pub below : All (λ n. n < length new.objs) roots
