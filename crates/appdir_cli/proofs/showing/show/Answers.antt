use Rattle.std.proofs.Common.{◌∙◌, ap}
use Rattle.app_config.specs.Settings.{setting_of}
use Rattle.appdir_cli.proofs.ShowingLemmas.{shown_there}
use Rattle.appdir_cli.proofs.showing.show.Goals as goal

pub returns-in-Ok-clause-answer : goal.returns-in-Ok-clause-answer
returns-in-Ok-clause-answer g c =
    shown_there c.setting_of.result (g.T.Tree.seen c.args.tree.now) (g.T.Tree.seen c.show_in.new.tree) c.args.command.now c.show_in.result (c.setting_of.ensures ∙ ap setting_of (c.in-Ok.ensures ∙ c.as_slice.ensures)) c.show_in.ensures.answer
