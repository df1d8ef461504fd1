-- The targets of a directory's items, and what reading one gives.
use Rattle.std.specs.Prelude.{ℕ, List, [], ◌∷◌, ◌≤◌, ◌≡◌, Bool, true, ◌||◌, nat_lt, not, All, Any, Contains, IsUtf8, Option, None, Some, Result}
use Rattle.std.specs.List.{list_any}
use Rattle.std.specs.Str.{is_utf8}
use Rattle.answers.specs.First.{first_some, some_where, value_unless}
use Rattle.path_text.specs.Path.{parts_of, IsNamed, is_idle, is_parent, is_empty, begins_at_root, has_nul}
use Rattle.path_text.specs.declared.relative.RelFault.{RelFault}
use Rattle.path_text.specs.declared.relative.RelFault.TheVariants.{Empty, Absolute, HasNul, NotText, BadPart, NoMemory}

-- Parts that each name something, without control bytes.
pub record IsTarget (text : List ℕ) : Type 0 where
  pub named : All IsNamed (parts_of text)
  pub no_control : All (λ c. 32 ≤ c) text
  pub utf8 : IsUtf8 text

abbrev pub has_control : List ℕ → Bool
has_control part = list_any (λ c. nat_lt c 32) part

-- A part that names nothing, or holds a control byte.
abbrev pub is_bad_part : List ℕ → Bool
is_bad_part part = is_idle part || is_parent part || has_control part

abbrev pub has_bad_part : List ℕ → Bool
has_bad_part text = list_any is_bad_part (parts_of text)

-- The first fault of a target.
unfoldable pub target_fault : List ℕ → Option RelFault
target_fault text = first_some (
    some_where (is_empty text) Empty ∷
    some_where (begins_at_root text) Absolute ∷
    some_where (has_nul text) HasNul ∷
    some_where (not (is_utf8 text)) NotText ∷
    some_where (has_bad_part text) BadPart ∷ [])

-- The first fault of the text, or else the text.
abbrev pub target_of : List ℕ → Result (List ℕ) RelFault
target_of text = value_unless (target_fault text) text

-- The fault, where it says something of the text; want of memory says nothing.
abbrev pub said_of_target : RelFault → Option RelFault
said_of_target NoMemory = None
said_of_target fault = Some fault

-- What a fault says of the text.
abbrev pub IsTargetFault : RelFault → List ℕ → Type 0
IsTargetFault Empty text = text ≡ []
IsTargetFault Absolute text = begins_at_root text ≡ true
IsTargetFault HasNul text = Contains text 0
IsTargetFault NotText text = ¬ (IsUtf8 text)
IsTargetFault BadPart text = Any (λ part. is_bad_part part ≡ true) (parts_of text)
IsTargetFault NoMemory text = Unit {0}
