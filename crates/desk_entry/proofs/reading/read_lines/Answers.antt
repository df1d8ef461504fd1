use Rattle.desk_entry.proofs.StateLemmas.{last_fails, last_goes, line_fails, line_goes}
use Rattle.desk_entry.proofs.reading.read_lines.Goals as goal

pub returns-in-Err : goal.returns-in-Err
returns-in-Err c =
    line_fails (Unit {0}) c.args.text.now c.lines.rest.now c.in-Some.line.now c.in-Some.more.now c.lines.state c.take.new.self c.lines.number c.in-Err.fault c.lines.invariant c.in-Some.ensures.0 c.in-Some.ensures.1 c.in-Err.ensures

pub lines-preserved : goal.lines-preserved
lines-preserved c =
    line_goes c.args.text.now c.lines.rest.now c.in-Some.line.now c.in-Some.more.now c.lines.state c.take.new.self c.lines.number c.in_default-take.field-0 c.lines.invariant c.in-Some.ensures.0 c.in-Some.ensures.1 c.in_default-take.ensures

pub returns-in-Ok : goal.returns-in-Ok
returns-in-Ok c =
    last_goes c.args.text.now c.lines.rest.now c.lines.state c.take-2.new.self c.lines.number c.in-Ok.field-0 c.lines.invariant c.in_default.ensures c.in-Ok.ensures

pub returns-in-Err-take : goal.returns-in-Err-take
returns-in-Err-take c =
    last_fails (Unit {0}) c.args.text.now c.lines.rest.now c.lines.state c.take-2.new.self c.lines.number c.in-Err-take.fault c.lines.invariant c.in_default.ensures c.in-Err-take.ensures
