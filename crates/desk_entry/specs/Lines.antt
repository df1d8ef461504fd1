-- The kinds of lines of a desktop entry file and their grammar (Desktop Entry Specification, "Basic
-- format of the file"; docs/FORMATS.md).
use Rattle.std.specs.Borrow.{Bor}
use Rattle.std.specs.Prelude.{◌≡◌, ◌≢◌, ℕ, List, [], ◌∷◌, ◌++◌, Bool, true, false, ◌==◌, ◌&&◌, ◌||◌, not, nat_le, Option, Some, None}
use Rattle.std.specs.List.{list_all}

-- What a line is: blank or a comment, the head of a group, or an entry with its key and value.
pub data Line : Type 0 where
  quiet : Line
  group : List ℕ → Line
  entry : List ℕ → List ℕ → Line

-- ---- bytes

abbrev pub is_blank_byte : ℕ → Bool
is_blank_byte c = c == 32 || c == 9

-- Neither a control byte nor a bracket.
abbrev pub is_group_byte : ℕ → Bool
is_group_byte c = nat_le 32 c && not (c == 91) && not (c == 93)

abbrev pub is_within : ℕ → ℕ → ℕ → Bool
is_within least most c = nat_le least c && nat_le c most

-- A letter, a digit or `-`.
abbrev pub is_key_byte : ℕ → Bool
is_key_byte c = is_within 65 90 c || is_within 97 122 c || is_within 48 57 c || c == 45

-- Neither a bracket nor `=`.
abbrev pub is_locale_byte : ℕ → Bool
is_locale_byte c = not (c == 91) && not (c == 93) && not (c == 61)

-- ---- words

-- At least one byte, each of a kind.
abbrev pub IsWordOf : (ℕ → Bool) → List ℕ → Type 0
IsWordOf of_kind text = (text ≢ []) × (list_all of_kind text ≡ true)

abbrev pub IsGroupName : List ℕ → Type 0
IsGroupName name = IsWordOf is_group_byte name

abbrev pub IsKeyName : List ℕ → Type 0
IsKeyName name = IsWordOf is_key_byte name

abbrev pub IsLocaleName : List ℕ → Type 0
IsLocaleName name = IsWordOf is_locale_byte name

-- `[TEXT]`
abbrev pub bracketed : List ℕ → List ℕ
bracketed text = 91 ∷ (text ++ 93 ∷ [])

-- `[LOCALE]`
abbrev pub IsLocaleText : List ℕ → Type 0
IsLocaleText text = (name : List ℕ) × IsLocaleName name × (text ≡ bracketed name)

-- The name of a key, with or without a locale.
abbrev pub HasLocale : Option (List ℕ) → Type 0
HasLocale None = Unit {0}
HasLocale (Some locale) = IsLocaleText locale

abbrev pub text_or_none : Option (List ℕ) → List ℕ
text_or_none None = []
text_or_none (Some text) = text

pub record IsKey (key : List ℕ) : Type 0 where
  pub name : List ℕ
  pub locale : Option (List ℕ)
  pub named : IsKeyName name
  pub located : HasLocale locale
  pub spelled : key ≡ name ++ text_or_none locale

-- ---- lines

abbrev pub AreSpaces : List ℕ → Type 0
AreSpaces text = list_all (λ c. c == 32) text ≡ true

abbrev pub begins_with : ℕ → List ℕ → Bool
begins_with byte [] = false
begins_with byte (c ∷ text) = c == byte

-- Whether the last byte is another. A text without bytes has none.
abbrev pub ends_in_another : ℕ → List ℕ → Bool
ends_in_another byte [] = true
ends_in_another byte (c ∷ []) = not (c == byte)
ends_in_another byte (c ∷ d ∷ text) = ends_in_another byte (d ∷ text)

-- Spaces and tabs alone, or a comment.
abbrev pub is_quiet : List ℕ → Bool
is_quiet text = begins_with 35 text || list_all is_blank_byte text

-- `KEY = VALUE`, with or without spaces around the sign. The value begins behind them.
pub record IsEntryText (text key value : List ℕ) : Type 0 where
  pub keyed : IsKey key
  pub before : List ℕ
  pub behind : List ℕ
  pub spaces_before : AreSpaces before
  pub spaces_behind : AreSpaces behind
  pub begins : begins_with 32 value ≡ false
  pub spelled : text ≡ key ++ (before ++ 61 ∷ (behind ++ value))

-- Which texts are lines of which kind.
abbrev pub IsLine : List ℕ → Line → Type 0
IsLine text quiet = is_quiet text ≡ true
IsLine text (group name) = IsGroupName name × (text ≡ bracketed name)
IsLine text (entry key value) = IsEntryText text key value

-- The line that a text is. None says that it is of no kind.
abbrev pub IsLineOf : List ℕ → Option Line → Type 0
IsLineOf text (Some line) = IsLine text line
IsLineOf text None = (line : Line) → IsLine text line → ⊥

abbrev pub IsGroupOf : List ℕ → Option (Bor (List ℕ)) → Type 0
IsGroupOf text (Some name) = IsLine text (group name.now)
IsGroupOf text None = (name : List ℕ) → IsLine text (group name) → ⊥

abbrev pub IsEntryOf : List ℕ → Option (Bor (List ℕ) × Bor (List ℕ)) → Type 0
IsEntryOf text (Some e) = IsLine text (entry e.0.now e.1.now)
IsEntryOf text None = (key value : List ℕ) → IsLine text (entry key value) → ⊥
