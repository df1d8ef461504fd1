-- The bytes of which a field is the escaped form.
use Rattle.std.specs.Prelude.{◌≡◌, ◌≤◌, ◌<◌, ℕ, List, [], ◌∷◌, ◌++◌, Option, Some, None}
use Rattle.std.specs.Borrow.{Bor}
use Rattle.load_model.specs.Escaping.{AreBytes, escaped, escaped_byte, hex_digit}

-- The field is the escaped form of these bytes, or of none.
abbrev pub IsEscaped : List ℕ → Option (List ℕ) → Type 0
IsEscaped field (Some bytes) = AreBytes bytes × (field ≡ escaped bytes)
IsEscaped field None = (bytes : List ℕ) → AreBytes bytes → field ≡ escaped bytes → ⊥

-- The character is the digit of this number, or of none.
abbrev pub IsDigit : ℕ → Option ℕ → Type 0
IsDigit digit (Some n) = (n < 16) × (digit ≡ hex_digit n)
IsDigit digit None = (n : ℕ) → n < 16 → digit ≡ hex_digit n → ⊥

-- The field begins with this byte's form, and the rest follows, or with that of no byte.
abbrev pub IsFirstByte : List ℕ → Option (ℕ × Bor (List ℕ)) → Type 0
IsFirstByte field (Some p) = (p.0 ≤ 255) × (field ≡ escaped_byte p.0 ++ p.1.now)
IsFirstByte field None =
    (byte : ℕ) (rest : List ℕ) → byte ≤ 255 → field ≡ escaped_byte byte ++ rest → ⊥

-- A field that is neither of the two signs, of the empty text and of `-`, and not `-` itself: it is
-- written byte by byte.
pub record IsWrittenByByte (field : List ℕ) : Type 0 where
  pub some : field ≡ [] → ⊥
  pub no_dash : field ≡ 45 ∷ [] → ⊥
  pub no_empty_sign : field ≡ 0x5c ∷ 101 ∷ [] → ⊥
  pub no_dash_sign : field ≡ 0x5c ∷ 120 ∷ 50 ∷ 100 ∷ [] → ⊥
