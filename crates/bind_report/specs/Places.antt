-- Places of objects that are written nowhere.
use Rattle.std.specs.Prelude.{ℕ, List, codes, map}
use Rattle.load_model.specs.declared.runs.Obj.{Obj}

-- No object has a place.
abbrev pub no_places : List Obj → List (List ℕ)
no_places objs = map (λ (o : Obj). codes "-") objs
