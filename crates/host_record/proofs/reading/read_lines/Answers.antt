-- What the step that was tried last says of the text.
use Rattle.std.proofs.Common.{◌<◌, length, subst, rules, Bool}
use Rattle.host_record.specs.Reached.{TakesText}
use Rattle.host_record.proofs.StepLemmas.{step, refuse_unended, refuse_line}
use Rattle.host_record.proofs.reading.read_lines.Goals as goal

pub returns-in_default : goal.returns-in_default
returns-in_default c =
    let some : 0 < length c.lines.rest.now = search rules in
    refuse_unended c.args.text.now c.lines.rest.now c.lines.number c.lines.reading c.lines.invariant some c.in_default.ensures

pub returns-in-Ok-false : goal.returns-in-Ok-false
returns-in-Ok-false c =
    refuse_line c.args.text.now c.lines.rest.now c.in-Some.line.now c.in-Some.more.now c.lines.number c.lines.reading c.take_text.new.self c.lines.invariant c.in-Some.ensures.1 c.in-Some.ensures.0
    (subst (λ (b : Bool). TakesText c.lines.reading c.in-Some.line.now b c.take_text.new.self) c.in-Ok-false.field-0-test c.in-Ok-false.ensures)

pub lines-preserved : goal.lines-preserved
lines-preserved c =
    step c.args.text.now c.lines.rest.now c.in-Some.line.now c.in-Some.more.now c.lines.number c.lines.reading c.take_text.new.self c.lines.invariant c.in-Some.ensures.1
    (subst (λ (b : Bool). TakesText c.lines.reading c.in-Some.line.now b c.take_text.new.self) c.in-Ok-true.field-0-test c.in-Ok-true.ensures)
