use Rattle.std.proofs.Common.{vec_items}
use Rattle.text_sets.proofs.MappedLemmas.{inserted}
use Rattle.text_sets.proofs.texts.TextSet.add.Goals as goal

pub returns : goal.returns
returns c =
    inserted vec_items c.self.inside.set.keys c.insert.new.self.keys c.in_ok-text.text c.args.self.now c.args.text.now
    c.self.view_is c.in_ok-text.ensures.items c.in-Ok.ensures.keys
