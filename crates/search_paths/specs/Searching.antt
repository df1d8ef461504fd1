-- What a search answers: the first decision of its candidates, up to want of memory and reads that
-- failed.
use Rattle.std.specs.Prelude.{ℕ, List, ◌≡◌, ◌<◌, Option, Some, None, Result, Ok, Err, All, length, slice_get}
use Rattle.answers.specs.Faults.{Rose}
use Rattle.answers.specs.Told.{WhereTold}
use Rattle.load_model.specs.Candidates.{Candidate, first_decision}
use Rattle.load_model.specs.Faces.{face_or_flaw}
use Rattle.load_model.specs.LoadList.{Object}
use Rattle.load_model.specs.Opening.{IsPlace, OpenerView}
use Rattle.load_model.specs.World.{World}
use Rattle.load_model.specs.declared.faces.Face.{Face}
use Rattle.load_model.specs.declared.opening.OpenFault.TheVariants.{Read, Damaged as OpensDamaged, NoMemory as OpensNoMemory}
use Rattle.load_model.specs.declared.refusals.LoadRefusal.{LoadRefusal}
use Rattle.load_model.specs.declared.refusals.LoadRefusal.TheVariants.{Damaged, RelativeItem, TokenUnset}
use Rattle.load_model.specs.declared.runs.Obj.{Obj}
use Rattle.load_model.specs.declared.setting.Setting.{Setting}
use Rattle.search_paths.specs.declared.hits.Hit.{Hit}
use Rattle.search_paths.specs.declared.hits.Hit.TheVariants.{Found, Missing}
use Rattle.search_paths.specs.declared.hits.SearchStop.{SearchStop}
use Rattle.search_paths.specs.declared.hits.SearchStop.TheVariants.{RelativeItem as StopsRelative, TokenUnset as StopsUnset, Open, NoMemory}

-- The asker is one of the objects and their faces are in the table. The program is its own loader,
-- and the loader of each other object has a smaller number.
pub record AreSearchable (faces : List Face) (objs : List Obj) (asker : ℕ) : Type 0 where
  pub within : asker < length objs
  pub faces_within : All (λ x. x.face < length faces) objs
  pub program : (x : Obj) → slice_get objs 0 ≡ Some x → x.loader ≡ 0
  pub others : (j : ℕ) (x : Obj) → 0 < j → slice_get objs j ≡ Some x → x.loader < j

-- The object is decided on, and its face stands at this place of the table.
pub record IsFound (faces : List Face) (decides : Option (Result Object LoadRefusal) → Type 0)
    (path id : List ℕ) (place : ℕ) : Type 0 where
  pub face : Face
  pub stands : slice_get faces place ≡ Some face
  pub found : decides (Some (Ok (record { path = path; id = id; face = face })))

-- The answer of a search, where `decides` says of a world what its first decision is.
abbrev pub IsAnswer : (World → Option (Result Object LoadRefusal) → Type 0) → OpenerView
    → OpenerView → Result Hit SearchStop → Type 0
IsAnswer decides before after (Ok (Found path id place)) =
    IsPlace after place × WhereTold before.told (λ world. IsFound after.faces (decides world) path
    id place)
IsAnswer decides before after (Ok Missing) = WhereTold before.told (λ world. decides world None)
IsAnswer decides before after (Err (StopsRelative item)) =
    WhereTold before.told (λ world. decides world (Some (Err (RelativeItem item))))
IsAnswer decides before after (Err (StopsUnset item)) =
    WhereTold before.told (λ world. decides world (Some (Err (TokenUnset item))))
IsAnswer decides before after (Err (Open (OpensDamaged path flaw))) =
    WhereTold before.told (λ world. decides world (Some (Err (Damaged path flaw))))
IsAnswer decides before after (Err (Open Read)) = Rose before.faults after.faults
IsAnswer decides before after (Err (Open OpensNoMemory)) = Unit {0}
IsAnswer decides before after (Err NoMemory) = Unit {0}

-- The first decision of these candidates to a loader for the opener's machine.
abbrev pub Decides : OpenerView → List Candidate → World → Option (Result Object LoadRefusal)
    → Type 0
Decides view cs world decided =
    (setting : Setting) → setting.machine ≡ view.machine
    → first_decision face_or_flaw setting world cs ≡ decided

-- No item of a run path stopped the search.
abbrev pub IsByOpening : SearchStop → Type 0
IsByOpening (StopsRelative item) = ⊥
IsByOpening (StopsUnset item) = ⊥
IsByOpening (Open fault) = Unit {0}
IsByOpening NoMemory = Unit {0}
