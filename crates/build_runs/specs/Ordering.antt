-- Runs over a table that has the faces of their objects alone, in order.
use Rattle.std.specs.Prelude.{ℕ, ◌+◌, List, [], ◌∷◌, ◌≡◌, length, map}
use Rattle.std.specs.List.{AllZip}
use Rattle.load_model.specs.Runs.{face_at}
use Rattle.load_model.specs.declared.faces.Face.{Face}
use Rattle.load_model.specs.declared.runs.Obj.{Obj}
use Rattle.load_model.specs.declared.runs.Run.{Run}
use Rattle.build_runs.specs.BuildRuns.{IsTableInOrder}

-- An object with its face at a place, and objects with theirs at the places from one on.
abbrev pub with_face : Obj → ℕ → Obj
with_face x place = record x { face = place }

unfoldable pub numbered_objs : ℕ → List Obj → List Obj
numbered_objs place [] = []
numbered_objs place (x ∷ xs) = with_face x place ∷ numbered_objs (place + 1) xs

abbrev pub with_numbered_objs : ℕ → Run → Run
with_numbered_objs place run = record run { objs = numbered_objs place run.objs }

-- Runs whose objects have faces at the places from one on, run by run.
unfoldable pub numbered : ℕ → List Run → List Run
numbered place [] = []
numbered place (run ∷ runs) =
    with_numbered_objs place run ∷ numbered (place + length run.objs) runs

-- A run that only the places of faces tell from another: each object has the same face, and all
-- else is the same.
pub record IsSameRun (faces kept : List Face) (run new : Run) : Type 0 where
  pub faces_same : (j : ℕ) → face_at kept new j ≡ face_at faces run j
  pub objs : map (λ x. with_face x 0) new.objs ≡ map (λ x. with_face x 0) run.objs
  pub rest : record new { objs = [] } ≡ record run { objs = [] }

-- The same runs over the faces of their objects, in order.
pub record ArePutInOrder (faces : List Face) (runs : List Run) (kept : List Face)
    (new : List Run) : Type 0 where
  pub same : AllZip (IsSameRun faces kept) runs new
  pub in_order : IsTableInOrder kept new
