-- Cuts of a text at bytes, where the code makes them.
use Rattle.std.specs.Borrow.{Bor}
use Rattle.std.specs.Prelude.{◌≡◌, ◌≢◌, ℕ, List, [], ◌∷◌, ◌++◌, Option, Some, None, All, true, false}
use Rattle.desk_entry.specs.Lines.{AreSpaces, begins_with, bracketed, ends_in_another}

-- The text before the first such byte, and that behind it.
abbrev pub IsFree : ℕ → List ℕ → Type 0
IsFree byte text = All (λ c. c ≢ byte) text

abbrev pub IsCut : List ℕ → ℕ → Option (Bor (List ℕ) × Bor (List ℕ)) → Type 0
IsCut text byte (Some p) = IsFree byte p.0.now × (text ≡ p.0.now ++ byte ∷ p.1.now)
IsCut text byte None = IsFree byte text

-- What follows a byte at the beginning, and what stands before one at the end.
abbrev pub IsBehind : List ℕ → ℕ → Option (Bor (List ℕ)) → Type 0
IsBehind text byte (Some rest) = (text ≡ byte ∷ rest.now) × (begins_with byte text ≡ true)
IsBehind text byte None = begins_with byte text ≡ false

abbrev pub IsBefore : List ℕ → ℕ → Option (Bor (List ℕ)) → Type 0
IsBefore text byte (Some rest) = text ≡ rest.now ++ byte ∷ []
IsBefore text byte None = (rest : List ℕ) → text ≡ rest ++ byte ∷ [] → ⊥

-- What stands in brackets.
abbrev pub IsBetween : List ℕ → Option (Bor (List ℕ)) → Type 0
IsBetween text (Some inside) = text ≡ bracketed inside.now
IsBetween text None = (inside : List ℕ) → text ≡ bracketed inside → ⊥

-- What follows the spaces at the beginning of a text, and what stands before those at its end.
pub record IsEnd (text rest : List ℕ) : Type 0 where
  pub spaces : List ℕ
  pub are_spaces : AreSpaces spaces
  pub no_more : begins_with 32 rest ≡ false
  pub whole : text ≡ spaces ++ rest

pub record IsStart (text rest : List ℕ) : Type 0 where
  pub spaces : List ℕ
  pub are_spaces : AreSpaces spaces
  pub no_more : ends_in_another 32 rest ≡ true
  pub whole : text ≡ rest ++ spaces
