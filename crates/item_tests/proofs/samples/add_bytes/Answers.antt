use Rattle.item_tests.proofs.samples.add_bytes.Goals as goal

pub returns : goal.returns
returns c told h = c.in_ok-add.ensures told tt h
