-- Counts of faults, which stand still at their last value.
use Rattle.std.specs.Prelude.{ℕ, ◌+◌, ◌-◌, ◌^◌, ◌≤◌, min}

-- One more, or the same at the last value of a count.
abbrev pub one_more : ℕ → ℕ
one_more count = min (count + 1) (2 ^ 64 - 1)

-- The count is greater than before, or at its last value.
abbrev pub Rose : ℕ → ℕ → Type 0
Rose before now = one_more before ≤ now
