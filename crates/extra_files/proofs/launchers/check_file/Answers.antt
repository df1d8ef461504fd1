use Rattle.std.proofs.Common.{◌∙◌}
use Rattle.extra_files.proofs.CheckLemmas.{check_told}
use Rattle.extra_files.proofs.launchers.check_file.Goals as goal

pub returns-in-Ok-clause-answer : goal.returns-in-Ok-clause-answer
returns-in-Ok-clause-answer g c =
    check_told (g.T.Tree.seen c.args.tree.now) (g.T.Tree.seen c.read_whole.new.tree) c.args.file.now.path.now c.as_slice.result.now c.args.programs.now c.args.stem.now c.check_text.result
    (λ world told. c.as_slice.ensures.value ∙ c.in-Ok.ensures.bytes world told) c.check_text.ensures
