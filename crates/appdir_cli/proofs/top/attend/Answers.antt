use Rattle.std.proofs.Common.{◌≡◌, ◌∙◌, sym, subst, refl, Option, None}
use Rattle.appdir_cli.specs.Endings.{Ends, Outside, outside}
use Rattle.command_words.specs.Words.{command_of, texts}
use Rattle.command_words.specs.declared.commands.Command.{Command}
use Rattle.appdir_cli.proofs.EndingLemmas.{unshaped_ends}
use Rattle.command_words.proofs.SizeLemmas.{command_sized}
use Rattle.appdir_cli.proofs.top.attend.Goals as goal

pub obey-requires : goal.obey-requires
obey-requires g c =
    command_sized (texts c.args.words.now) c.in-Ok-Some.command (sym c.in-Ok-Some.field-0-is ∙ c.in-Ok-Some.ensures)

pub returns-in-Ok-Some-clause-ending : goal.returns-in-Ok-Some-clause-ending
returns-in-Ok-Some-clause-ending g c =
    let before : Outside = outside (g.T.Tree.seen c.args.tree.now) (g.O.OutDir.seen c.args.out.now) (g.S.Sink.seen c.args.sink.now) in
    let after : Outside = outside (g.T.Tree.seen c.obey.new.tree) (g.O.OutDir.seen c.obey.new.out) (g.S.Sink.seen c.obey.new.sink) in
    subst (λ (asked : Option Command). Ends asked before after c.obey.result) (sym c.in-Ok-Some.field-0-is ∙ c.in-Ok-Some.ensures) c.obey.ensures.ending

pub returns-in-Ok-None-clause-ending : goal.returns-in-Ok-None-clause-ending
returns-in-Ok-None-clause-ending g c =
    let before : Outside = outside (g.T.Tree.seen c.args.tree.now) (g.O.OutDir.seen c.args.out.now) (g.S.Sink.seen c.args.sink.now) in
    let after : Outside = outside (g.T.Tree.seen c.args.tree.now) (g.O.OutDir.seen c.args.out.now) (g.S.Sink.seen c.say.new.sink) in
    let unshaped : None ≡ command_of (texts c.args.words.now) = sym c.in-Ok-None.field-0-is ∙ c.in-Ok-None.ensures in
    subst (λ (asked : Option Command). Ends asked before after c.say.result) unshaped (unshaped_ends before after c.usage_line.result.now c.say.result refl c.usage_line.ensures c.say.ensures.said)
