-- Where the references of an object are looked up: its scope (System V gABI, Shared Object
-- Dependencies and DT_SYMBOLIC).
use Rattle.std.specs.Prelude.{ℕ, zero, suc, List, [], ◌∷◌, ◌++◌, Bool, false, cond, Option, Some, None, slice_get}
use Rattle.std.specs.Option.{unwrap_or}
use Rattle.load_model.specs.LoadList.{up_to, with_numbers}
use Rattle.load_model.specs.Runs.{face_at}
use Rattle.load_model.specs.declared.faces.Face.{Face}
use Rattle.load_model.specs.declared.runs.Obj.{Obj}
use Rattle.load_model.specs.declared.runs.Run.{Run}

abbrev pub is_symbolic_face : Option Face → Bool
is_symbolic_face None = false
is_symbolic_face (Some face) = face.symbolic

-- A symbolic object is the first of its own scope.
abbrev pub itself : List Face → Run → ℕ → List ℕ
itself faces run j = cond (is_symbolic_face (face_at faces run j)) (j ∷ []) []

-- The local list of the opened name that brought an object; the objects of the start have none.
abbrev pub local_by : Run → ℕ → List ℕ
local_by run zero = []
local_by run (suc k) = unwrap_or (slice_get run.locals k) []

abbrev pub local_of : Run → Option Obj → List ℕ
local_of run None = []
local_of run (Some o) = local_by run o.phase

-- The object itself where it is symbolic, the global list, and the local list of the opened name
-- that brought it, each object at its first place.
unfoldable pub scope_of : List Face → Run → ℕ → List ℕ
scope_of faces run j =
    with_numbers []
    (itself faces run j ++ (up_to run.global ++ local_of run (slice_get run.objs j)))
