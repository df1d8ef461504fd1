use Rattle.item_tests.proofs.samples.add_copies.Goals as goal

pub returns : goal.returns
returns g c h = c.in_ok-add_copy-3.ensures (c.in_ok-add_copy-2.ensures (c.in_ok-add_copy.ensures h))
