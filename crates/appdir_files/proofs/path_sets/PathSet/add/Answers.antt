use Rattle.std.proofs.Common.{vec_items}
use Rattle.appdir_files.proofs.MappedLemmas.{inserted}
use Rattle.appdir_files.proofs.path_sets.PathSet.add.Goals as goal

pub returns : goal.returns
returns c =
    inserted vec_items c.self.inside.set.keys c.insert.new.self.keys c.in_ok-path.path c.args.self.now c.args.path.now
    c.self.view_is c.in_ok-path.ensures.items c.in-Ok.ensures.keys
