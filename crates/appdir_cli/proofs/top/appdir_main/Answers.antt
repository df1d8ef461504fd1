use Rattle.appdir_cli.specs.Endings.{outside}
use Rattle.command_words.specs.Words.{command_of, texts}
use Rattle.appdir_cli.proofs.AppRunLemmas.{app_run_last}
use Rattle.appdir_cli.proofs.CheckedHostsLemmas.{checked_hosts_run}
use Rattle.appdir_cli.proofs.CompletenessLemmas.{ends_complete}
use Rattle.appdir_cli.proofs.SameEverywhereLemmas.{same_everywhere}
use Rattle.appdir_cli.proofs.TwoWorldsLemmas.{runs_alike}
use Rattle.appdir_cli.proofs.top.appdir_main.Goals as goal

pub returns-clause-complete : goal.returns-clause-complete
returns-clause-complete g c =
    ends_complete c.one_host_check.ensures (command_of (texts c.args.words.now)) (outside (g.T.Tree.seen c.args.tree.now) (g.O.OutDir.seen c.args.out.now) (g.S.Sink.seen c.args.sink.now)) (outside (g.T.Tree.seen c.attend.new.tree) (g.O.OutDir.seen c.attend.new.out) (g.S.Sink.seen c.attend.new.sink)) c.attend.result c.attend.ensures.ending

pub returns-clause-app_run_last : goal.returns-clause-app_run_last
returns-clause-app_run_last g c =
    app_run_last (command_of (texts c.args.words.now)) (outside (g.T.Tree.seen c.args.tree.now) (g.O.OutDir.seen c.args.out.now) (g.S.Sink.seen c.args.sink.now)) (outside (g.T.Tree.seen c.attend.new.tree) (g.O.OutDir.seen c.attend.new.out) (g.S.Sink.seen c.attend.new.sink)) c.attend.result c.attend.ensures.ending

pub returns-clause-same_everywhere : goal.returns-clause-same_everywhere
returns-clause-same_everywhere g c =
    same_everywhere c.packed_programs_run_same.ensures.programs c.packed_programs_run_same.ensures.images c.args.words.now (outside (g.T.Tree.seen c.args.tree.now) (g.O.OutDir.seen c.args.out.now) (g.S.Sink.seen c.args.sink.now)) (outside (g.T.Tree.seen c.attend.new.tree) (g.O.OutDir.seen c.attend.new.out) (g.S.Sink.seen c.attend.new.sink)) c.attend.result (g.met.T.Tree.tells_world c.args.tree.now) c.attend.ensures.ending

pub returns-clause-checked_hosts : goal.returns-clause-checked_hosts
returns-clause-checked_hosts g c =
    checked_hosts_run c.checked_hosts_run_packed_programs.ensures (texts c.args.words.now) (outside (g.T.Tree.seen c.args.tree.now) (g.O.OutDir.seen c.args.out.now) (g.S.Sink.seen c.args.sink.now)) (outside (g.T.Tree.seen c.attend.new.tree) (g.O.OutDir.seen c.attend.new.out) (g.S.Sink.seen c.attend.new.sink)) c.attend.result c.attend.ensures.ending

pub returns-clause-two_worlds : goal.returns-clause-two_worlds
returns-clause-two_worlds g c world told = runs_alike (texts c.args.words.now) world
