use Rattle.std.proofs.Common.{subst, sym, Err}
use Rattle.build_plan.specs.declared.stops.BuildStop.{BuildStop}
use Rattle.config_files.proofs.ReadingLemmas.{fault_told}
use Rattle.config_files.specs.Reading.{IsTextAnswer}
use Rattle.config_text.proofs.ReadyConfigLemmas.{read_is_ready}
use Rattle.config_files.proofs.configuring.config_of.Goals as goal

pub returns-in-Ok-clause-ready : goal.returns-in-Ok-clause-ready
returns-in-Ok-clause-ready c = read_is_ready c.args.text.now c.in-Ok.config c.in-Ok.ensures

pub returns-in-Err-clause-answer : goal.returns-in-Err-clause-answer
returns-in-Err-clause-answer c =
    subst (λ (stop : BuildStop). IsTextAnswer c.args.text.now (Err stop)) (sym c.stop_of.ensures) (fault_told c.args.text.now c.in-Err.fault c.in-Err.ensures)
