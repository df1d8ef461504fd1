use Rattle.appdir_cli.proofs.PackingLemmas.{build_stops, packs_built}
use Rattle.appdir_cli.proofs.packing.pack.Goals as goal

pub returns-in-Ok-whole_of-clause-answer : goal.returns-in-Ok-whole_of-clause-answer
returns-in-Ok-whole_of-clause-answer g c =
    packs_built (g.T.Tree.seen c.args.tree.now) (g.T.Tree.seen c.build.new.tree) c.args.config.now c.args.out.now c.in-Ok.built c.in-Ok-whole_of.whole c.in-Ok.ensures.answer c.in-Ok-whole_of.ensures.place c.in-Ok-whole_of.ensures.items c.in-Ok-whole_of.ensures.line

pub returns-in-Err-clause-answer : goal.returns-in-Err-clause-answer
returns-in-Err-clause-answer g c =
    build_stops (g.T.Tree.seen c.args.tree.now) (g.T.Tree.seen c.build.new.tree) c.args.config.now c.args.out.now c.in-Err.stop c.in-Err.ensures.answer
