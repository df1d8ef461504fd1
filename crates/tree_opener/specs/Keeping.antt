-- What keeping a face comes to.
use Rattle.std.specs.Prelude.{ℕ, List, [], ◌∷◌, ◌++◌, ◌≡◌, Result, Ok, Err, length}
use Rattle.load_model.specs.declared.faces.Face.{Face}
use Rattle.load_model.specs.declared.opening.Opened.{Opened}
use Rattle.load_model.specs.declared.opening.Opened.TheVariants.{Object}
use Rattle.load_model.specs.declared.opening.OpenFault.{OpenFault}
use Rattle.load_model.specs.declared.opening.OpenFault.TheVariants.{NoMemory}

-- The face stands at the end of the table, and is answered with its place; or memory was refused,
-- and the table stays.
abbrev pub IsKept : List Face → List Face → List ℕ → Face → Result Opened OpenFault → Type 0
IsKept before after id face (Ok opened) =
    (after ≡ before ++ face ∷ []) × (opened ≡ Object id (length before))
IsKept before after id face (Err fault) = (after ≡ before) × (fault ≡ NoMemory)
