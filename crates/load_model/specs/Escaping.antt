-- How a name or a path is written in a line of text.
use Rattle.std.specs.Prelude.{ℕ, List, [], ◌∷◌, Bool, cond, not, ◌==◌, ◌&&◌, ◌+◌, ◌/◌, ◌%◌, ◌≢◌, ◌≤◌, Option, Some, None, nat_le, nat_lt, All}
use Rattle.std.specs.List.{flat_map}
use Rattle.std.specs.Str.{bytes_eq}

-- a lower-case hexadecimal digit
abbrev pub hex_digit : ℕ → ℕ
hex_digit n = cond (nat_lt n 10) (48 + n) (87 + n)

-- 0x21 to 0x7e but `\`
abbrev pub is_plain : ℕ → Bool
is_plain byte = nat_le 0x21 byte && (nat_le byte 0x7e && not (byte == 0x5c))

-- the byte, or `\xHH`
abbrev pub escaped_byte : ℕ → List ℕ
escaped_byte byte =
    cond (is_plain byte) (byte ∷ [])
    (0x5c ∷ 120 ∷ hex_digit (byte / 16) ∷ hex_digit (byte % 16) ∷ [])

-- an empty text is `\e`, and the text `-` is `\x2d`
abbrev pub escaped : List ℕ → List ℕ
escaped bytes =
    cond (bytes_eq bytes []) (0x5c ∷ 101 ∷ [])
    (cond (bytes_eq bytes (45 ∷ [])) (0x5c ∷ 120 ∷ 50 ∷ 100 ∷ []) (flat_map escaped_byte bytes))

-- a version, or `-` for none
abbrev pub version_text : Option (List ℕ) → List ℕ
version_text None = 45 ∷ []
version_text (Some version) = escaped version

-- a text that can stand as a field of a line: printed characters alone, and not the `-` that stands
-- for nothing
pub record IsField (text : List ℕ) : Type 0 where
  pub some : text ≢ []
  pub printed : All (λ c. (0x21 ≤ c) × (c ≤ 0x7e)) text
  pub named : text ≢ 45 ∷ []

-- the values of bytes
abbrev pub AreBytes : List ℕ → Type 0
AreBytes bytes = All (λ c. c ≤ 255) bytes
