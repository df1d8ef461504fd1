use Rattle.std.proofs.Common.{◌≡◌, ◌∙◌, sym, arith, ◌<◌, length}
use Rattle.config_text.specs.Faults.{said_of_config}
use Rattle.config_text.proofs.TargetLemmas.{is_new, stood}
use Rattle.config_text.proofs.targets.check_distinct.Goals as goal

pub returns-then-contains : goal.returns-then-contains
returns-then-contains c =
    let more : c.look.target-index < length c.args.targets.now = omega arith in
    stood (said_of_config c.two_targets.result) c.look.before c.args.targets.now c.look.target-index c.target-item.result c.as_bytes.result.now c.as_bytes-then-contains.result.now more (c.as_bytes.ensures ∙ c.target-item.is) (c.as_bytes-then-contains.ensures ∙ c.target-item.is) (sym c.contains.ensures ∙ c.if-contains.true) c.look.invariant c.two_targets.ensures

pub look-preserved : goal.look-preserved
look-preserved c =
    let more : c.look.target-index < length c.args.targets.now = omega arith in
    is_new c.look.before c.add.new.self c.args.targets.now c.look.target-index c.target-item.result c.as_bytes.result.now c.as_bytes-in-look.result.now more (c.as_bytes.ensures ∙ c.target-item.is) (c.as_bytes-in-look.ensures ∙ c.target-item.is) (sym c.contains.ensures ∙ c.if-contains.false) c.in_ok-add.ensures c.look.invariant
