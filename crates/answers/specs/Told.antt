-- What an object of the outside tells of itself, where it tells it.
use Rattle.std.specs.Prelude.{Option, Some, ◌≡◌}

-- Of what is told the property holds; where nothing is told, nothing is said.
abbrev pub WhereTold : {A : Type 0} → Option A → (A → Type 0) → Type 0
WhereTold {A} told P = (value : A) → told ≡ Some value → P value
