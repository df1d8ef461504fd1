-- At the end all parts of the text were yielded.
use Rattle.std.proofs.Common.{◌∙◌, ap, [], lit<}
use Rattle.std.specs.Prelude.{fold}
use Rattle.std.proofs.lemmas.Iterator.Splits.{YieldsList-from_str_split}
use Rattle.std.proofs.lemmas.Iterator.Consumers.{YieldsList-at, YieldsList-end}
use Rattle.path_text.specs.Path.{led, named_parts}
use Rattle.path_text.proofs.normal.named_parts.Goals as goal

pub returns : goal.returns
unfolding named_parts
returns c =
    c.loop-part.invariant
    ∙ ap (fold led []) (YieldsList-end (YieldsList-at c.into_iter-part-iterator.ensures.into_iter_gives (YieldsList-from_str_split 47 c.args.text.now (lit< tt) c.split-part-items.ensures.text c.split-part-items.ensures.has_more c.split-part-items.ensures.pattern)) c.loop-part.yielded _ c.loop-part.yielded_by c.next.result _ c.in-None.is c.next.ensures.steps).0
