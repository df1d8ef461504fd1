-- What a piece does to an open file.
use Rattle.std.specs.Prelude.{ℕ, List, Option, Some}
use Rattle.std.specs.Io.KnownBytes.{Appends}

-- a file is open and stays open, and where it is known what it holds, the piece stands at its end
abbrev pub TakesPiece : {F : Type 0} → (F → Option (List ℕ)) → Option F → Option F → List ℕ → Type 0
TakesPiece contents (Some before) (Some after) piece =
    Appends (contents before) (contents after) piece
TakesPiece contents _ _ piece = ⊥
