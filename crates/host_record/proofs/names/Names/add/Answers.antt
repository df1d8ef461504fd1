-- The names after the key of the name joined them.
use Rattle.std.proofs.Common.{vec_items}
use Rattle.host_record.proofs.MappedLemmas.{added}
use Rattle.host_record.proofs.names.Names.add.Goals as goal

pub returns : goal.returns
returns c =
    added vec_items c.self.inside.set.keys c.insert.new.self.keys c.in_ok-name.name c.args.self.now c.args.name.now
    c.self.view_is c.in_ok-name.ensures.items c.requires c.in-Ok.ensures.keys
