use Rattle.std.proofs.Common.{inl, inr, refl}
use Rattle.appdir_build.proofs.StepLemmas.{reads_nothing, step_later, stop_later}
use Rattle.appdir_cli.proofs.PackingLemmas.{opens_names}
use Rattle.appdir_cli.specs.Packing.{Packs, PacksBy}
use Rattle.config_files.specs.Configuring.{Configures}
use Rattle.appdir_cli.proofs.packing.build_by.Goals as goal

pub pack-requires-clause-opens : goal.pack-requires-clause-opens
pack-requires-clause-opens g c = opens_names c.in-Ok.config c.in-Ok.ensures.ready

pub pack-requires-clause-entry : goal.pack-requires-clause-entry
pack-requires-clause-entry g c = c.in-Ok.ensures.ready.entry

pub returns-in-Ok-clause-answer : goal.returns-in-Ok-clause-answer
returns-in-Ok-clause-answer g c =
    let before = g.T.Tree.seen c.args.tree.now in
    step_later before (g.T.Tree.seen c.config_at.new.tree) (g.T.Tree.seen c.pack.new.tree)
    (λ world outcome. Packs world c.in-Ok.config c.args.command.now.out outcome)
    (λ world outcome. PacksBy world c.args.command.now outcome)
    c.pack.result c.in-Ok.ensures.only_reads
    (λ world outcome told h. inl (record { config = c.in-Ok.config; read = c.in-Ok.ensures.answer world told; packs = h }))
    c.pack.ensures.answer

pub returns-in-Err-clause-answer : goal.returns-in-Err-clause-answer
returns-in-Err-clause-answer g c =
    let before = g.T.Tree.seen c.args.tree.now in
    stop_later before before (g.T.Tree.seen c.config_at.new.tree)
    (λ world outcome. Configures world c.args.command.now.config outcome)
    (λ world outcome. PacksBy world c.args.command.now outcome)
    c.in-Err.stop (reads_nothing before)
    (λ world refusal told h. inr (record { refusal = refusal; unread = h; outcome_is = refl }))
    c.in-Err.ensures.answer
