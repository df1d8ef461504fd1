use Rattle.std.proofs.Common.{◌∙◌, ap}
use Rattle.app_config.specs.Configs.{quick_config_of}
use Rattle.appdir_cli.proofs.PackingLemmas.{has_no_entry, opens_nothing, packs_alone}
use Rattle.appdir_cli.proofs.packing.quick.Goals as goal

pub pack-requires-clause-opens : goal.pack-requires-clause-opens
pack-requires-clause-opens g c =
    opens_nothing c.args.command.now c.in-Ok.config (c.in-Ok.ensures ∙ ap (λ names. quick_config_of c.args.command.now.program names) c.as_slice.ensures)

pub pack-requires-clause-entry : goal.pack-requires-clause-entry
pack-requires-clause-entry g c =
    has_no_entry c.args.command.now c.in-Ok.config (c.in-Ok.ensures ∙ ap (λ names. quick_config_of c.args.command.now.program names) c.as_slice.ensures)

pub returns-in-Ok-clause-answer : goal.returns-in-Ok-clause-answer
returns-in-Ok-clause-answer g c =
    packs_alone (g.T.Tree.seen c.args.tree.now) (g.T.Tree.seen c.pack.new.tree) c.args.command.now c.in-Ok.config c.pack.result (c.in-Ok.ensures ∙ ap (λ names. quick_config_of c.args.command.now.program names) c.as_slice.ensures) c.pack.ensures.answer
