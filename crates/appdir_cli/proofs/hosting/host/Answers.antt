use Rattle.appdir_cli.proofs.HostingLemmas.{host_says, host_stops}
use Rattle.appdir_cli.proofs.hosting.host.Goals as goal

pub returns-in-Ok-clause-answer : goal.returns-in-Ok-clause-answer
returns-in-Ok-clause-answer g c =
    host_says (g.T.Tree.seen c.args.tree.now) (g.T.Tree.seen c.check_host.new.tree) c.args.command.now c.as_slice.result.now c.in-Ok.line c.as_slice.ensures c.in-Ok.ensures.answer

pub returns-in-Err-clause-answer : goal.returns-in-Err-clause-answer
returns-in-Err-clause-answer g c =
    host_stops (g.T.Tree.seen c.args.tree.now) (g.T.Tree.seen c.check_host.new.tree) c.args.command.now c.as_slice.result.now c.in-Err.stop c.as_slice.ensures c.in-Err.ensures.answer
