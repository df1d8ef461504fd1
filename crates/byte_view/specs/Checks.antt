-- A flaw by its number and what it tells.
use Rattle.std.specs.Prelude.{ℕ, Option, Some, None}
use Rattle.byte_view.specs.declared.flaws.Flaw.{Flaw}

-- The flaw with these numbers.
abbrev pub flaw : ℕ → ℕ → ℕ → Flaw
flaw code a b = record { code = code; a = a; b = b }

-- The flaw with the number of a header, an entry or the like, where there is one.
abbrev pub flaw_at : ℕ → Option ℕ → Option Flaw
flaw_at code None = None
flaw_at code (Some i) = Some (flaw code i 0)
