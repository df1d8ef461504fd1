-- What asking for the needs of one object answers.
use Rattle.std.specs.Prelude.{ℕ, List, ◌++◌, ◌≡◌, Some, Result, Ok, Err, map, slice_get}
use Rattle.answers.specs.Faults.{Rose}
use Rattle.answers.specs.Told.{WhereTold}
use Rattle.load_model.specs.Faces.{face_or_flaw}
use Rattle.load_model.specs.LoadList.{Loaded, Object, Request, ask_all}
use Rattle.load_model.specs.Loads.{goes_to}
use Rattle.load_model.specs.Opening.{OpenerView}
use Rattle.load_model.specs.declared.faces.Face.{Face}
use Rattle.load_model.specs.declared.runs.Obj.{Obj}
use Rattle.load_model.specs.declared.setting.Setting.{Setting}
use Rattle.load_requests.specs.Loading.{IsRead, IsRefusedBy, refusal_of}
use Rattle.load_requests.specs.Standing.{Stands, asked_to, start_path}
use Rattle.load_requests.specs.declared.loading.Loading.{Loading}
use Rattle.load_requests.specs.declared.stops.LoadStop.{LoadStop}

-- The requests of an object for these names.
abbrev pub requests_by : ℕ → List (List ℕ) → List Request
requests_by k names = map (λ n. record { by = k; name = n }) names

-- The needs of the object of this number.
pub record AreNeedsOf (faces : List Face) (s : Loading) (k : ℕ) (needs : List (List ℕ)) : Type 0
  where
    pub obj : Obj
    pub stands : slice_get s.objs k ≡ Some obj
    pub face : Face
    pub face_is : slice_get faces obj.face ≡ Some face
    pub needs_are : needs ≡ face.needs

-- What is loaded once an object asked for these names, each with its target.
pub record AreAskedTo (setting : Setting) (before after : OpenerView) (new : Loading)
    (loaded : Loaded) (k : ℕ) (names : List (List ℕ)) (ts : List ℕ) : Type 0 where
  pub end : Loaded
  pub stands : Stands after.faces new end
  pub brought : List Object
  pub objs : end.objs ≡ loaded.objs ++ brought
  pub log : end.log ≡ loaded.log ++ asked_to k names ts
  pub recursion : WhereTold before.told
      (λ world. ask_all (goes_to face_or_flaw setting world (start_path loaded)) loaded
      (requests_by k names) ≡ Ok end)

-- What asking for these names answers: their targets, or the stop of the list at the first that has
-- none.
abbrev pub AreAsked : Setting → OpenerView → OpenerView → Loading → Loaded → ℕ → List (List ℕ)
    → Result (List ℕ) LoadStop → Type 0
AreAsked setting before after new loaded k names (Ok ts) =
    AreAskedTo setting before after new loaded k names ts
AreAsked setting before after new loaded k names (Err stop) =
    WhereTold before.told (λ world. IsRefusedBy (λ refusal. ask_all (goes_to face_or_flaw setting
    world (start_path loaded)) loaded (requests_by k names) ≡ Err refusal) (refusal_of stop))
    × (IsRead stop → Rose before.faults after.faults)
