use Rattle.std.proofs.Common.{sym, ◌∙◌}
use Rattle.desk_entry.proofs.StateLemmas.{read_bytes, read_ill, read_well}
use Rattle.desk_entry.proofs.reading.read_entry.Goals as goal

pub returns-then-not-is_text : goal.returns-then-not-is_text
returns-then-not-is_text c = read_bytes c.args.text.now (sym c.is_text.ensures ∙ c.if-not-is_text.true)

pub returns-in-Ok : goal.returns-in-Ok
returns-in-Ok c = read_well c.args.text.now c.in-Ok.state c.first_group.result (sym c.is_text.ensures ∙ c.if-not-is_text.false) c.in-Ok.ensures c.first_group.ensures

pub returns-in-Err : goal.returns-in-Err
returns-in-Err c = read_ill c.args.text.now c.in-Err.fault (sym c.is_text.ensures ∙ c.if-not-is_text.false) c.in-Err.ensures
