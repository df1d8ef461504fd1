-- What the steps of a request answer.
use Rattle.std.specs.Prelude.{ℕ, List, [], ◌∷◌, ◌++◌, ◌||◌, ◌≡◌, Some, None, Result, Ok, Err, length, slice_get}
use Rattle.std.specs.Str.{bytes_eq}
use Rattle.load_model.specs.Candidates.{refused_text}
use Rattle.load_model.specs.LoadList.{Found, Loaded, Object, Request, Search, by_id, first_place, is_named, with_found}
use Rattle.load_model.specs.declared.faces.Face.{Face}
use Rattle.load_model.specs.declared.limits.TheConstants.{MOST_OBJECTS}
use Rattle.load_model.specs.declared.refusals.LoadRefusal.{LoadRefusal}
use Rattle.load_model.specs.declared.refusals.LoadRefusal.TheVariants.{TooManyObjects}
use Rattle.load_model.specs.declared.runs.Obj.{Obj}
use Rattle.load_requests.specs.Known.{IsLearnt}
use Rattle.load_requests.specs.Loading.{IsRead, IsRefusedBy, refusal_of}
use Rattle.load_requests.specs.Standing.{Stands, number_of, start_path}
use Rattle.load_requests.specs.declared.loading.Loading.{Loading}
use Rattle.load_requests.specs.declared.stops.LoadStop.{LoadStop}

-- Whether the text of a name is refused.
abbrev pub IsTextAnswer : List Object → Request → Result Unit LoadStop → Type 0
IsTextAnswer objects r (Ok done) = refused_text objects r ≡ None
IsTextAnswer objects r (Err stop) =
    IsRefusedBy (λ refusal. refused_text objects r ≡ Some refusal) (refusal_of stop)
    × (IsRead stop → ⊥)

-- Where a request goes for which this file is found.
abbrev pub goes_for : Search LoadRefusal → Loaded → Object → Result Found LoadRefusal
goes_for search loaded o =
    by_id (TooManyObjects (start_path loaded)) MOST_OBJECTS search loaded.objs o
    (first_place (λ j x. bytes_eq x.id o.id) 0 loaded.objs)

-- The object that a request goes to for which this file is found, or that there are too many.
abbrev pub IsTaken : List Face → Loading → Loaded → Request → Object → Result ℕ LoadStop
    → Type 0
IsTaken faces new loaded r o (Ok t) =
    (found : Found) × (t ≡ number_of loaded found) × Stands faces new (with_found loaded r found)
    × ((search : Search LoadRefusal) → goes_for search loaded o ≡ Ok found)
IsTaken faces new loaded r o (Err stop) =
    IsRefusedBy (λ refusal. (search : Search LoadRefusal) → goes_for search loaded o ≡ Err refusal)
    (refusal_of stop)
    × (IsRead stop → ⊥)

-- One object more, known by its soname, with its identity.
pub record IsPushed (face : Face) (x : Obj) (before after : Loading) : Type 0 where
  pub objs : after.objs ≡ before.objs ++ x ∷ []
  pub known : IsLearnt (is_named face.soname) (length before.objs) before.known after.known
  pub ids : IsLearnt (bytes_eq x.id) (length before.objs) before.ids after.ids
  pub targets : after.targets ≡ before.targets
  pub phase : after.phase ≡ before.phase

-- One object more, known by a name and by its soname, with its identity.
pub record IsAdded (faces : List Face) (name : List ℕ) (x : Obj) (before after : Loading) : Type 0
  where
    pub face : Face
    pub stands : slice_get faces x.face ≡ Some face
    pub objs : after.objs ≡ before.objs ++ x ∷ []
    pub known : IsLearnt (λ n. is_named face.soname n || bytes_eq name n) (length before.objs)
        before.known after.known
    pub ids : IsLearnt (bytes_eq x.id) (length before.objs) before.ids after.ids
    pub targets : after.targets ≡ before.targets
    pub phase : after.phase ≡ before.phase
