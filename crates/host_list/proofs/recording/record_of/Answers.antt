use Rattle.std.proofs.lemmas.Result.{IfOk-weaker}
use Rattle.host_list.proofs.CanonicalLemmas.{canonical}
use Rattle.host_list.proofs.ClosingLemmas.{closed_split}
use Rattle.host_list.proofs.recording.record_of.Goals as goal

pub returns-clause-canonical : goal.returns-clause-canonical
returns-clause-canonical g c closed = IfOk-weaker c.made_record.result _ _ (λ r i. canonical c.args.faces.now c.args.runs.now c.args.split.now r c.requires.some c.requires.interps closed i) c.made_record.ensures

pub returns-clause-canonical_split : goal.returns-clause-canonical_split
returns-clause-canonical_split g c names is =
    let closed = closed_split c.args.faces.now c.args.runs.now names c.args.split.now c.requires.runs is in
    IfOk-weaker c.made_record.result _ _ (λ r i. canonical c.args.faces.now c.args.runs.now c.args.split.now r c.requires.some c.requires.interps closed i) c.made_record.ensures
