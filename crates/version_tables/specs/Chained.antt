-- Records that follow one another by their next words
use Rattle.std.specs.Prelude.{ℕ, ◌+◌, ◌<◌, ◌≡◌, List, length, slice_index}

-- as many places as there are records: the first where the table begins, each other as far behind
-- the one before it as that one says
pub record AreChained (next : ℕ → ℕ) (first n : ℕ) (places : List ℕ) : Type 0 where
  pub many : length places ≡ n
  pub begins : 0 < n → slice_index places 0 ≡ first
  pub follows : (k : ℕ) → k + 1 < n → slice_index places (k + 1) ≡ slice_index places k
      + next (slice_index places k)
