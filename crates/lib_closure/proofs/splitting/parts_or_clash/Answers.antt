use Rattle.lib_closure.proofs.HostLemmas.{all_few}
use Rattle.lib_closure.proofs.splitting.parts_or_clash.Goals as goal

pub of-requires-clause-few : goal.of-requires-clause-few
of-requires-clause-few c = all_few c.args.faces.now c.args.runs.now c.in_ok-lists.lists.items c.as_slice.result.now c.requires.runs c.in_ok-lists.ensures c.as_slice.ensures.value
