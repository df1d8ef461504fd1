use Rattle.extra_files.proofs.CheckLemmas.{checked_absent}
use Rattle.extra_files.proofs.StepLemmas.{reads_nothing, stop_later}
use Rattle.extra_files.specs.Copying.{IsCheckedLength, IsLengthAt}
use Rattle.extra_files.proofs.launchers.checked_length.Goals as goal

pub returns-in-Err-clause-answer : goal.returns-in-Err-clause-answer
returns-in-Err-clause-answer g c =
    let before = g.T.Tree.seen c.args.tree.now in
    let programs = c.args.programs.now in
    stop_later before before (g.T.Tree.seen c.length_at.new.tree)
    (λ world outcome. IsLengthAt world c.args.desktop.now outcome)
    (λ world outcome. IsCheckedLength world programs c.args.desktop.now c.args.icon.now outcome)
    c.in-Err.stop (reads_nothing before)
    (λ world refusal told h. checked_absent world programs c.args.desktop.now c.args.icon.now refusal h)
    c.in-Err.ensures.answer
