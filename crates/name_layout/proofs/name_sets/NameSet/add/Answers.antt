use Rattle.std.proofs.Common.{vec_items}
use Rattle.text_sets.proofs.MappedLemmas.{inserted}
use Rattle.name_layout.proofs.name_sets.NameSet.add.Goals as goal

pub returns : goal.returns
returns c =
    inserted vec_items c.self.inside.set.keys c.insert.new.self.keys c.in_ok-name.name c.args.self.now c.args.name.now
    c.self.view_is c.in_ok-name.ensures.items c.in-Ok.ensures.keys
