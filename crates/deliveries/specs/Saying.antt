-- What a sink takes of a text.
use Rattle.std.specs.Prelude.{ℕ, List, take, ◌≡◌, ◌⊎◌}
use Rattle.answers.specs.Faults.{Rose}
use Rattle.ports.specs.View.{View, Became, Stays, with_line}
use Rattle.refusals.specs.Lines.{refusal_line}
use Rattle.refusals.specs.declared.refusal.Refusal.{Refusal}
use Rattle.deliveries.specs.declared.status.Status.{Status}
use Rattle.deliveries.specs.declared.status.Status.TheVariants.{Refused, NoMemory, PrintFailed}

-- The sink took this text, and nothing more.
abbrev pub Took : List ℕ → View (List ℕ) → View (List ℕ) → Type 0
Took text before after = Became (with_line text) before after

-- A fault of the sink cut the text off.
pub record TookPart (text : List ℕ) (before after : View (List ℕ)) : Type 0 where
  pub cause : Rose before.faults after.faults
  pub count : ℕ
  pub part : Took (take count text) before after

-- The text was printed whole, with this status, or a fault of the sink cut it off.
abbrev pub IsSaid : List ℕ → Status → View (List ℕ) → View (List ℕ) → Status → Type 0
IsSaid text status before after result =
    (result ≡ status) × Took text before after ⊎ (result ≡ PrintFailed) × TookPart text before after

-- The same of the line of a refusal, or memory was refused before it.
abbrev pub IsRefusal : Refusal → View (List ℕ) → View (List ℕ) → Status → Type 0
IsRefusal refusal before after result =
    (result ≡ NoMemory) × Stays before after
    ⊎ IsSaid (refusal_line refusal) Refused before after result
