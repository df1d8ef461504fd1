use Rattle.std.proofs.Common.{subst}
use Rattle.std.proofs.lemmas.Result.{IfOk-weaker}
use Rattle.host_record.specs.Fields.{IsLine}
use Rattle.host_record.proofs.StepLemmas.{taken}
use Rattle.host_record.proofs.taking.Reading.take_text.Goals as goal

pub returns-in-Some : goal.returns-in-Some
returns-in-Some c =
    IfOk-weaker c.take.result _ _ (λ fine h. taken c.args.self.now _ c.args.text.now c.in-Some.line fine (subst (IsLine c.args.text.now) c.in-Some.is c.in_ok-line.ensures) h) c.take.ensures
