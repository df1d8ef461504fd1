-- Run paths: their items, and the tokens in an item (ld.so(8), Rpath token expansion).
use Rattle.std.specs.Prelude.{ℕ, zero, suc, ◌+◌, List, [], ◌∷◌, Bool, false, cond, not, ◌==◌, ◌&&◌, ◌||◌, nat_le, Option, Some, None, is_none, codes, drop, filter, length, map, take_while}
use Rattle.std.specs.List.{flat_map, list_any, slice_split}
use Rattle.std.specs.Option.{option_map, unwrap_or}
use Rattle.std.specs.Str.{bytes_eq}
use Rattle.path_text.specs.Path.{begins_at_root, is_empty}
use Rattle.load_model.specs.declared.setting.Setting.{Setting}

-- The tokens: the folder of the object that holds the run path, and two texts of the setting.
pub data Token : Type 0 where
  Origin : Token
  Lib : Token
  Platform : Token

-- A token that is spelled in a text, and how many bytes it takes there.
pub record Spelled : Type 0 where
  pub token : Token
  pub length : ℕ

abbrev pub is_token_letter : ℕ → Bool
is_token_letter c =
    (nat_le 65 c && nat_le c 90)
    || ((nat_le 97 c && nat_le c 122) || ((nat_le 48 c && nat_le c 57) || (c == 95)))

-- The longest run of letters, digits and `_` that a text begins with.
abbrev pub word_of : List ℕ → List ℕ
word_of text = take_while is_token_letter text

abbrev pub token_named : List ℕ → Option Token
token_named word =
    cond (bytes_eq word (codes "ORIGIN")) (Some Origin)
    (cond (bytes_eq word (codes "LIB")) (Some Lib)
    (cond (bytes_eq word (codes "PLATFORM")) (Some Platform) None))

abbrev pub spelled : ℕ → List ℕ → Option Spelled
spelled more word =
    option_map (λ t. record { token = t; length = length word + more }) (token_named word)

-- A text begins with `}`.
abbrev pub is_closed : List ℕ → Bool
is_closed [] = false
is_closed (c ∷ text) = c == 125

-- `${NAME}`, from behind its brace, and the token that stands behind a `$`.
abbrev pub braced : List ℕ → Option Spelled
braced text = cond (is_closed (drop (length (word_of text)) text)) (spelled 2 (word_of text)) None

abbrev pub token_behind : List ℕ → Option Spelled
token_behind [] = None
token_behind (c ∷ text) = cond (c == 123) (braced text) (spelled 0 (word_of (c ∷ text)))

abbrev pub token_at : ℕ → List ℕ → Option Spelled
token_at c text = cond (c == 36) (token_behind text) None

-- The pieces of an item: bytes, and tokens. A `$` that spells no token is a byte, and reading goes
-- on behind it.
pub data Part : Type 0 where
  Byte : (c : ℕ) → Part
  Named : (token : Token) → Part

abbrev pub next_part : ℕ → Option Spelled → (ℕ → List Part) → List Part
next_part c None rest = Byte c ∷ rest 0
next_part c (Some s) rest = Named s.token ∷ rest s.length

-- `passed` bytes at the front belong to the token before them.
unfoldable pub parts_behind : List ℕ → ℕ → List Part
parts_behind [] passed = []
parts_behind (c ∷ text) (suc passed) = parts_behind text passed
parts_behind (c ∷ text) zero = next_part c (token_at c text) (parts_behind text)

abbrev pub parts_of_item : List ℕ → List Part
parts_of_item item = parts_behind item 0

-- What a token stands for, where it is set; `folder` is that of the object that holds the run path.
abbrev pub token_text : Setting → List ℕ → Token → Option (List ℕ)
token_text setting folder Origin = Some folder
token_text setting folder Lib = setting.lib
token_text setting folder Platform = setting.platform

abbrev pub is_unset : Setting → List ℕ → Part → Bool
is_unset setting folder (Byte c) = false
is_unset setting folder (Named token) = is_none (token_text setting folder token)

abbrev pub part_text : Setting → List ℕ → Part → List ℕ
part_text setting folder (Byte c) = c ∷ []
part_text setting folder (Named token) = unwrap_or (token_text setting folder token) []

-- An item with each token replaced by its text.
abbrev pub expanded : Setting → List ℕ → List ℕ → List ℕ
expanded setting folder item = flat_map (part_text setting folder) (parts_of_item item)

-- An item of a run path: a folder by its expanded text, or one that is refused once the search
-- reaches it.
pub data Item : Type 0 where
  Folder : (text : List ℕ) → Item
  Unset : (item : List ℕ) → Item
  Relative : (item : List ℕ) → Item

abbrev pub item_of : Setting → List ℕ → List ℕ → Item
item_of setting folder item =
    cond (list_any (is_unset setting folder) (parts_of_item item)) (Unset item)
    (cond (begins_at_root (expanded setting folder item)) (Folder (expanded setting folder item))
    (Relative item))

-- The items of a run path: the texts between colons that are not empty, as the setting and the
-- holder's folder expand them.
abbrev pub texts_of : List ℕ → List (List ℕ)
texts_of run_path = filter (λ item. not (is_empty item)) (slice_split (λ c. c == 58) run_path)

unfoldable pub items_of : Setting → List ℕ → List ℕ → List Item
items_of setting folder run_path = map (item_of setting folder) (texts_of run_path)
