-- Absolute paths: their parts, their normal form, and what reading one gives.
use Rattle.std.specs.Prelude.{ℕ, List, [], ◌∷◌, ◌++◌, ◌-◌, Bool, true, false, cond, not, ◌≡◌, ◌==◌, ◌||◌, length, take, fold, slice_index_or, codes, All, IsUtf8, Contains, Option, None, Some, Result}
use Rattle.std.specs.List.{slice_split, join_with_byte, list_any}
use Rattle.std.specs.Str.{bytes_eq, is_utf8}
use Rattle.answers.specs.First.{first_some, some_where, value_unless}
use Rattle.path_text.specs.declared.absolute.PathFault.{PathFault}
use Rattle.path_text.specs.declared.absolute.PathFault.TheVariants.{Empty, Relative, HasNul, NotText, NoMemory}

-- ---- parts

-- The parts between slashes, each a byte 47.
abbrev pub parts_of : List ℕ → List (List ℕ)
parts_of text = slice_split (λ c. c == 47) text

-- A part that leads nowhere: nothing, or `.`.
abbrev pub is_idle : List ℕ → Bool
is_idle part = bytes_eq part [] || bytes_eq part (codes ".")

-- The part `..`.
abbrev pub is_parent : List ℕ → Bool
is_parent part = bytes_eq part (codes "..")

-- A part that names something.
abbrev pub IsNamed : List ℕ → Type 0
IsNamed part = (is_idle part ≡ false) × (is_parent part ≡ false)

-- All but the last part, and nothing where there is none.
abbrev pub but_last : List (List ℕ) → List (List ℕ)
but_last parts = take (length parts - 1) parts

-- The last part, or the empty one where there is none.
abbrev pub last_part : List (List ℕ) → List ℕ
last_part parts = slice_index_or parts (length parts - 1) []

-- ---- the normal form

-- Where a part leads from the parts before it: up to the parent, nowhere, or down to a name.
abbrev pub led : List (List ℕ) → List ℕ → List (List ℕ)
led parts part =
    cond (is_parent part) (but_last parts) (cond (is_idle part) parts (parts ++ part ∷ []))

-- The named parts to which a text leads from the root.
unfoldable pub named_parts : List ℕ → List (List ℕ)
named_parts text = fold led [] (parts_of text)

-- `/` followed by the parts joined with `/`.
unfoldable pub rooted : List (List ℕ) → List ℕ
rooted parts = 47 ∷ join_with_byte 47 parts

-- The normal form of an absolute path.
abbrev pub normal_path : List ℕ → List ℕ
normal_path text = rooted (named_parts text)

-- A text in normal form: the root followed by named parts, and a text that a file system can hold.
pub record IsNormalPath (text : List ℕ) : Type 0 where
  pub parts : List (List ℕ)
  pub named : All IsNamed parts
  pub no_slash : All (λ part. ¬ (Contains part 47)) parts
  pub spelled : text ≡ rooted parts
  pub no_zero : ¬ (Contains text 0)
  pub utf8 : IsUtf8 text

-- The path of all parts but the last; the root's is the root.
abbrev pub folder_of : List ℕ → List ℕ
folder_of text = rooted (but_last (named_parts text))

-- The last part, empty for the root.
abbrev pub base_of : List ℕ → List ℕ
base_of text = last_part (named_parts text)

-- ---- what reading a path gives

abbrev pub is_empty : List ℕ → Bool
is_empty [] = true
is_empty (c ∷ text) = false

-- Whether the first byte is a slash.
abbrev pub begins_at_root : List ℕ → Bool
begins_at_root [] = false
begins_at_root (c ∷ text) = c == 47

abbrev pub has_nul : List ℕ → Bool
has_nul text = list_any (λ c. c == 0) text

-- The first fault of a path.
unfoldable pub path_fault : List ℕ → Option PathFault
path_fault text = first_some (
    some_where (is_empty text) Empty ∷
    some_where (not (begins_at_root text)) Relative ∷
    some_where (has_nul text) HasNul ∷
    some_where (not (is_utf8 text)) NotText ∷ [])

-- The first fault of the text, or else its normal form.
abbrev pub path_of : List ℕ → Result (List ℕ) PathFault
path_of text = value_unless (path_fault text) (normal_path text)

-- The fault, where it says something of the text; want of memory says nothing.
abbrev pub said_of_path : PathFault → Option PathFault
said_of_path NoMemory = None
said_of_path fault = Some fault

-- A text that can be read as a path.
pub record IsPath (text : List ℕ) : Type 0 where
  pub at_root : begins_at_root text ≡ true
  pub no_zero : ¬ (Contains text 0)
  pub utf8 : IsUtf8 text

-- What a fault says of the text.
abbrev pub IsPathFault : PathFault → List ℕ → Type 0
IsPathFault Empty text = text ≡ []
IsPathFault Relative text = begins_at_root text ≡ false
IsPathFault HasNul text = Contains text 0
IsPathFault NotText text = ¬ (IsUtf8 text)
IsPathFault NoMemory text = Unit {0}
