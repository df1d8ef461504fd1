use Rattle.std.proofs.Common.{◌∙◌, sym, subst, All, Some}
use Rattle.appdir_files.specs.Writing.{IsProbed}
use Rattle.extra_files.proofs.CopyLemmas.{launcher_probed}
use Rattle.extra_files.proofs.LauncherLemmas.{both_there, desktop_stops, icon_stops}
use Rattle.extra_files.proofs.StepLemmas.{reads_nothing, stop_later}
use Rattle.extra_files.specs.Copying.{AreLauncherItems, IsCheckedLength, IsLengthAt}
use Rattle.extra_files.proofs.launchers.launcher_items.Goals as goal

pub returns-in-Err-clause-answer : goal.returns-in-Err-clause-answer
returns-in-Err-clause-answer g c =
    let before = g.T.Tree.seen c.args.tree.now in
    let programs = c.args.programs.now in
    let desktop = c.args.desktop.now in
    let icon = c.args.icon.now in
    stop_later before before (g.T.Tree.seen c.checked_length.new.tree)
    (λ world outcome. IsCheckedLength world programs desktop icon outcome)
    (λ world outcome. AreLauncherItems world programs (Some desktop) (Some icon) outcome)
    c.in-Err.stop (reads_nothing before)
    (λ world refusal told h. desktop_stops world programs desktop icon refusal h)
    c.in-Err.ensures.answer

pub returns-in-Err-length_at-clause-answer : goal.returns-in-Err-length_at-clause-answer
returns-in-Err-length_at-clause-answer g c =
    let programs = c.args.programs.now in
    let desktop = c.args.desktop.now in
    let icon = c.args.icon.now in
    stop_later (g.T.Tree.seen c.args.tree.now) (g.T.Tree.seen c.checked_length.new.tree) (g.T.Tree.seen c.length_at.new.tree)
    (λ world outcome. IsLengthAt world icon outcome)
    (λ world outcome. AreLauncherItems world programs (Some desktop) (Some icon) outcome)
    c.in-Err-length_at.stop c.in-Ok.ensures.only_reads
    (λ world refusal told h. icon_stops world programs desktop icon c.in-Ok.len refusal (c.in-Ok.ensures.answer world told) h)
    c.in-Err-length_at.ensures.answer

pub returns-in-Ok-copies-clause-answer : goal.returns-in-Ok-copies-clause-answer
returns-in-Ok-copies-clause-answer g c world told =
    both_there world c.args.programs.now c.args.desktop.now c.args.icon.now c.in-Ok.len c.in-Ok-length_at.len c.in-Ok-copies.items c.in-Ok-copies.ensures
    (c.in-Ok.ensures.answer world told) (c.in-Ok-length_at.ensures.answer world (c.in-Ok.ensures.only_reads.stays ∙ told))

pub returns-in-Ok-copies-clause-probed : goal.returns-in-Ok-copies-clause-probed
returns-in-Ok-copies-clause-probed g c =
    let told = (g.T.Tree.seen c.args.tree.now).told in
    subst (λ items. All (IsProbed told) items) (sym c.in-Ok-copies.ensures)
    (launcher_probed told c.args.desktop.now c.args.icon.now c.in-Ok.len c.in-Ok-length_at.len
    (λ world is_told. (c.in-Ok.ensures.answer world is_told).0)
    (λ world is_told. c.in-Ok-length_at.ensures.answer world (c.in-Ok.ensures.only_reads.stays ∙ is_told)))
