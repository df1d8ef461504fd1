-- From which candidate on each key is to be tried.
use Rattle.std.specs.Prelude.{ℕ, List, ◌≡◌, ◌<◌, Some, false, bytes_eq, length, position, slice_get}
use Rattle.name_layout.specs.Layouts.{candidate_name, is_free}
use Rattle.name_layout.specs.declared.taken.Taken.{Taken}

-- Each key that was tried has a start, and its candidates before that are not free.
pub record AreTried (listed : List (List ℕ)) (taken : Taken) : Type 0 where
  pub size : length taken.starts.items ≡ length taken.keys
  pub tried : (key : List ℕ) (place start : ℕ) → position (bytes_eq key) taken.keys ≡ Some place
      → slice_get taken.starts.items place ≡ Some start → (k : ℕ) → k < start
      → is_free listed taken.names (candidate_name key k) ≡ false
