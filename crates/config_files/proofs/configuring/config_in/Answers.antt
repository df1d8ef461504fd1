use Rattle.std.proofs.Common.{◌∙◌}
use Rattle.config_files.proofs.ReadingLemmas.{text_there}
use Rattle.config_files.proofs.configuring.config_in.Goals as goal

pub returns-in-Ok-clause-answer : goal.returns-in-Ok-clause-answer
returns-in-Ok-clause-answer g c =
    text_there (g.T.Tree.seen c.args.tree.now) (g.T.Tree.seen c.read_whole.new.tree) c.args.path.now c.as_slice.result.now c.config_of.result (λ world told. c.as_slice.ensures.value ∙ c.in-Ok.ensures.bytes world told) c.config_of.ensures.answer
