-- Two loans as one number.
use Rattle.std.specs.Prelude.{ℕ, ◌+◌, ◌*◌}

-- Different pairs have different numbers.
unfoldable pub both_loans : ℕ → ℕ → ℕ
both_loans one other = (one + other) * (one + other) + one
