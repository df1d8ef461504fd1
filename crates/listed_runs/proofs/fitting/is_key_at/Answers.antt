use Rattle.std.proofs.Common.{◌∙◌, ap}
use Rattle.listed_runs.specs.Fitting.{is_key}
use Rattle.listed_runs.proofs.fitting.is_key_at.Goals as goal

pub returns : goal.returns
returns c = c.is_key.ensures ∙ ap (is_key c.args.name.now) c.key_at.ensures
