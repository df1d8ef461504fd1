-- What a call does to a count of faults, and an object that tells this count alone.
use Rattle.std.specs.Prelude.{ℕ, ◌≡◌, None, Result, OnOk, OnErr}
use Rattle.answers.specs.Faults.{one_more}
use Rattle.ports.specs.View.{View}

-- each error counts as one fault, and nothing else does
pub record CountsErrors {A E : Type 0} (before now : ℕ) (result : Result A E) : Type 0 where
  pub stays : OnOk result (now ≡ before)
  pub raised : OnErr result (now ≡ one_more before)

-- an object that tells nothing but its count of faults
abbrev pub counts : {A : Type 0} → ℕ → View A
counts faults = record { told = None; faults = faults }
