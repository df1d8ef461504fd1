-- A string table with new texts behind the old bytes (System V gABI, String Table)
use Rattle.std.specs.Prelude.{ℕ, ◌+◌, ◌-◌, ◌<◌, ◌≡◌, Bool, true, false, slice_index, cond, nat_lt, List, [], ◌∷◌, ◌++◌, length, Option, Some, None}
use Rattle.std.specs.List.{flat_map, list_any}
use Rattle.std.specs.Option.{is_some}
use Rattle.std.specs.Str.{bytes_eq}
use Rattle.byte_view.specs.Dynamic.{text_in}
use Rattle.path_text.specs.Path.{has_nul}
use Rattle.strtab_grow.specs.declared.texts.TheConstants.{TABLE_LIMIT}

-- The size of the old table, and the new texts.
pub record Growth : Type 0 where
  pub old_size : ℕ
  pub texts : List (List ℕ)

-- A text as it stands in a table.
abbrev pub stored : List ℕ → List ℕ
stored t = t ++ (0 ∷ [])

-- The bytes that are added.
abbrev pub added : List (List ℕ) → List ℕ
added texts = flat_map (λ t. stored t) texts

abbrev pub stands_in : List ℕ → List (List ℕ) → Bool
stands_in t seen = list_any (λ s. bytes_eq s t) seen

-- The texts that stand neither before in this list nor among those that were seen.
abbrev pub once_after : List (List ℕ) → List (List ℕ) → List (List ℕ)
once_after seen [] = []
once_after seen (t ∷ more) = cond (stands_in t seen) (once_after seen more) (t
    ∷ once_after (seen ++ t ∷ []) more)

-- Each text once, in the order of their first places.
abbrev pub once : List (List ℕ) → List (List ℕ)
once texts = once_after [] texts

abbrev pub growth : ℕ → List (List ℕ) → Growth
growth old_size texts = record { old_size = old_size; texts = once texts }

-- The size with these texts.
abbrev pub size_of : Growth → ℕ
size_of g = g.old_size + length (added g.texts)

-- The size with these texts, where places in the table fit in their words.
abbrev pub size_to : ℕ → List (List ℕ) → Option ℕ
size_to old_size texts = cond (nat_lt (old_size + length (added texts)) TABLE_LIMIT)
    (Some (old_size + length (added texts))) None

-- The place of a text among these, of which the first stands at a place.
abbrev pub place_from : ℕ → List ℕ → List (List ℕ) → Option ℕ
place_from at t [] = None
place_from at t (s ∷ more) = cond (bytes_eq s t) (Some at) (place_from (at + (length s + 1)) t more)

pub record IsSmall (size : ℕ) (g : Growth) : Type 0 where
  pub is : size ≡ size_of g
  pub below : size < TABLE_LIMIT

-- What a growth by these texts promises of every old table of its size.
pub record PlacesTexts (g : Growth) (texts : List (List ℕ)) : Type 0 where
  pub placed : (t : List ℕ) → stands_in t texts ≡ true → is_some (place_from g.old_size t g.texts)
      ≡ true
  pub reads : (strings t : List ℕ) (p : ℕ) → length strings ≡ g.old_size → has_nul t ≡ false
      → place_from g.old_size t g.texts ≡ Some p → text_in (strings ++ added g.texts) p ≡ Some t
  pub old : (strings : List ℕ) (at : ℕ) → at < length strings
      → slice_index strings (length strings - 1) ≡ 0
      → text_in (strings ++ added g.texts) at ≡ text_in strings at
