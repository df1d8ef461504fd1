use Rattle.item_tests.proofs.ProbedLemmas.{probed_more}
use Rattle.item_tests.proofs.samples.add.Goals as goal

pub returns : goal.returns
returns c told body h =
    probed_more told c.args.items.now c.push.new.self c.in_ok-item.field-0 c.args.body c.in_ok-push.ensures.ok c.in_ok-item.ensures h body
