-- Entries of the dynamic table that are refused, or whose tag stood before (System V gABI, Dynamic
-- Section).
use Rattle.std.specs.Prelude.{ℕ, ◌≡◌, ◌<◌, ◌↔◌, true, List, Option, Some, None, slice_get}
use Rattle.byte_view.specs.Checks.{flaw}
use Rattle.byte_view.specs.DynamicFlaws.{is_refused, is_single}
use Rattle.byte_view.specs.declared.dynamic.Entry.{Entry}
use Rattle.byte_view.specs.declared.flaws.Flaw.{Flaw}
use Rattle.byte_view.specs.declared.flaws.TheConstants.{REPEATED, TAG_REFUSED}

-- Entry i is refused.
pub record IsRefusedAt (entries : List Entry) (i : ℕ) (e : Entry) : Type 0 where
  pub there : slice_get entries i ≡ Some e
  pub refused : is_refused e ≡ true

-- The tag of entry i stands at most once, and an entry before it has the same.
pub record IsRepeatedAt (entries : List Entry) (i : ℕ) (e : Entry) : Type 0 where
  pub there : slice_get entries i ≡ Some e
  pub single : is_single e.tag ≡ true
  pub place : ℕ
  pub earlier : Entry
  pub lower : place < i
  pub earlier_there : slice_get entries place ≡ Some earlier
  pub same : earlier.tag ≡ e.tag

-- An entry is neither.
pub record IsFine (entries : List Entry) (i : ℕ) (e : Entry) : Type 0 where
  pub kept : ¬ (IsRefusedAt entries i e)
  pub once : ¬ (IsRepeatedAt entries i e)

-- The first entry that is not fine is refused, and has this tag.
pub record IsFirstRefused (entries : List Entry) (tag : ℕ) : Type 0 where
  pub place : ℕ
  pub it : Entry
  pub here : IsRefusedAt entries place it
  pub tagged : it.tag ≡ tag
  pub first : (k : ℕ) (e : Entry) → k < place → IsFine entries k e

-- The first entry that is not fine is not refused, but its tag, which is this, stood before.
pub record IsFirstRepeated (entries : List Entry) (tag : ℕ) : Type 0 where
  pub place : ℕ
  pub it : Entry
  pub here : IsRepeatedAt entries place it
  pub kept : ¬ (IsRefusedAt entries place it)
  pub tagged : it.tag ≡ tag
  pub first : (k : ℕ) (e : Entry) → k < place → IsFine entries k e

-- A check names exactly the first entry that is not fine, by its tag, and nothing exactly where all
-- are fine.
pub record NamesFirstEntry (entries : List Entry) (found : Option Flaw) : Type 0 where
  pub refused : (tag : ℕ) → (found ≡ Some (flaw TAG_REFUSED tag 0)) ↔ IsFirstRefused entries tag
  pub repeated : (tag : ℕ) → (found ≡ Some (flaw REPEATED tag 0)) ↔ IsFirstRepeated entries tag
  pub none : (found ≡ None) ↔ ((i : ℕ) (e : Entry) → IsFine entries i e)
