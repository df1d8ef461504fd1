use Rattle.std.proofs.Common.{sym, ◌∙◌}
use Rattle.appdir_cli.proofs.ShowingLemmas.{last_is}
use Rattle.appdir_cli.proofs.showing.last_run.Goals as goal

pub returns : goal.returns
returns c = last_is c.args.runs c.pop.new.self.items c.pop.result (sym c.into_vec-runs.ensures ∙ c.pop.ensures.items)
