-- Where the chains of a GNU hash table begin
use Rattle.std.specs.Prelude.{ℕ, ◌≡◌, ◌<◌, ◌≤◌, ◌-◌, true, Bool, List, nat_lt, length, slice_index, take, drop}
use Rattle.std.specs.Int.{is_power_of_two}
use Rattle.std.specs.List.{list_any}
use Rattle.load_model.specs.GnuTable.{is_last}

-- a word from one place up to another ends a chain
unfoldable pub has_end_between : List ℕ → ℕ → ℕ → Bool
has_end_between words b k = list_any is_last (take (k - b) (drop b words))

-- for each word, the place from which on no word before it ends a chain
pub record AreStarts (starts words : List ℕ) : Type 0 where
  pub same : length starts ≡ length words
  pub each : (k b : ℕ) → k < length words → b ≤ k
      → has_end_between words b k ≡ nat_lt b (slice_index starts k)

-- what a table that was read is like
pub record IsUsable (shift : ℕ) (bloom buckets words starts : List ℕ) : Type 0 where
  pub little : shift < 32
  pub filter : is_power_of_two (length bloom) ≡ true
  pub some : 1 ≤ length buckets
  pub begins : AreStarts starts words
