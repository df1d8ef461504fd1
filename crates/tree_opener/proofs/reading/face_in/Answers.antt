use Rattle.std.proofs.Common.{◌∙◌}
use Rattle.tree_opener.proofs.SeenLemmas.{known_seen}
use Rattle.tree_opener.proofs.reading.face_in.Goals as goal

pub returns-in-Ok-clause-known : goal.returns-in-Ok-clause-known
returns-in-Ok-clause-known c =
    known_seen c.args.machine c.args.bytes.now c.of.result c.seen_with.result c.seen_with.ensures c.in-Ok.ensures.flaw (c.of.ensures ∙ c.in-Ok.ensures.face) (rw c.of.ensures c.in-Ok.ensures.few_symbols) (rw c.of.ensures c.in-Ok.ensures.few_asks)
