use Rattle.std.proofs.Common.{sym, ◌∙◌, refl}
use Rattle.std.specs.Prelude.{Some}
use Rattle.desk_entry.specs.Lines.{quiet}
use Rattle.desk_entry.proofs.states.State.take.Goals as goal

pub returns-then-is_quiet : goal.returns-then-is_quiet
returns-then-is_quiet c = (Some quiet, sym c.is_quiet.ensures ∙ c.if-is_quiet.true, refl)
