use Rattle.item_tests.proofs.ProbedLemmas.{none_probed}
use Rattle.item_tests.proofs.samples.items.Goals as goal

pub returns : goal.returns
returns g c =
    let told = (g.T.Tree.seen c.add_copies.new.tree).told in
    c.in_ok-add_bytes-2.ensures told (c.in_ok-add_bytes.ensures told (c.in_ok-add_copies.ensures (none_probed (g.T.Tree.seen c.args.tree.now).told c.new-items.result c.new-items.ensures)))
