use Rattle.object_rewriting.proofs.NamingLemmas.{fault_is_other}
use Rattle.object_rewriting.proofs.rewriting.planned.Goals as goal

pub returns-in-Err-Flawed : goal.returns-in-Err-Flawed
returns-in-Err-Flawed c has =
    fault_is_other c.args.bytes.now c.args.face.now c.in-Err-Flawed.field-0 c.in-Err-Flawed.field-0-0 c.in-Err-Flawed.ensures.flaw c.in-Err-Flawed.field-0-is has
