use Rattle.std.proofs.Common.{◌∙◌, subst, Ok, Err}
use Rattle.extra_files.proofs.LauncherLemmas.{all_there, files_stop, launcher_stops}
use Rattle.extra_files.proofs.StepLemmas.{reads_nothing, stop_later}
use Rattle.extra_files.specs.Copying.{AreDataItems, AreLauncherItems}
use Rattle.extra_files.specs.Extras.{AreExtras}
use Rattle.extra_files.specs.Faults.{program_names}
use Rattle.extra_files.proofs.extras.extra_items.Goals as goal

pub returns-in-Err-clause-answer : goal.returns-in-Err-clause-answer
returns-in-Err-clause-answer g c =
    let before = g.T.Tree.seen c.args.tree.now in
    let config = c.args.config.now in
    stop_later before before (g.T.Tree.seen c.launcher_of.new.tree)
    (λ world outcome. AreLauncherItems world (program_names config) config.desktop config.icon outcome)
    (λ world outcome. AreExtras world config outcome)
    c.in-Err.stop (reads_nothing before)
    (λ world refusal told h. launcher_stops world config refusal h)
    c.in-Err.ensures.answer

pub returns-in-Err-data_items-clause-answer : goal.returns-in-Err-data_items-clause-answer
returns-in-Err-data_items-clause-answer g c =
    let config = c.args.config.now in
    stop_later (g.T.Tree.seen c.args.tree.now) (g.T.Tree.seen c.launcher_of.new.tree) (g.T.Tree.seen c.data_items.new.tree)
    (λ world outcome. AreDataItems world c.as_slice.result.now outcome)
    (λ world outcome. AreExtras world config outcome)
    c.in-Err-data_items.stop c.in-Ok.ensures.only_reads
    (λ world refusal told h. files_stop world config c.in-Ok.items refusal (c.in-Ok.ensures.answer world told) (subst (λ files. AreDataItems world files (Err refusal)) c.as_slice.ensures h))
    c.in-Err-data_items.ensures.answer

pub returns-in-Ok-joined-clause-answer : goal.returns-in-Ok-joined-clause-answer
returns-in-Ok-joined-clause-answer g c world told =
    all_there world c.args.config.now c.in-Ok.items c.in-Ok-data_items.items c.in-Ok-joined.items c.in-Ok-joined.ensures
    (c.in-Ok.ensures.answer world told)
    (subst (λ files. AreDataItems world files (Ok c.in-Ok-data_items.items)) c.as_slice.ensures (c.in-Ok-data_items.ensures.answer world (c.in-Ok.ensures.only_reads.stays ∙ told)))
