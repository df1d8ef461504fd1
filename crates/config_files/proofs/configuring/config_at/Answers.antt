use Rattle.std.proofs.Common.{◌∙◌, sym}
use Rattle.config_files.proofs.ReadingLemmas.{file_absent, file_read}
use Rattle.config_files.proofs.configuring.config_at.Goals as goal

pub returns-in-Ok-Absent-clause-answer : goal.returns-in-Ok-Absent-clause-answer
returns-in-Ok-Absent-clause-answer g c =
    file_absent (g.T.Tree.seen c.args.tree.now) (g.T.Tree.seen c.probe.new.self) c.args.path.now c.absent.result c.absent.ensures (λ world told. sym c.in-Ok-Absent.field-0-is ∙ c.in-Ok-Absent.ensures.found world told)

pub returns-in-Ok-File-clause-answer : goal.returns-in-Ok-File-clause-answer
returns-in-Ok-File-clause-answer g c =
    file_read (g.T.Tree.seen c.args.tree.now) (g.T.Tree.seen c.probe.new.self) (g.T.Tree.seen c.config_in.new.tree) c.args.path.now c.in-Ok-File.field-0-0 c.in-Ok-File.len c.config_in.result
    c.probe.ensures.only_reads (λ world told. sym c.in-Ok-File.field-0-is ∙ c.in-Ok-File.ensures.found world told) c.config_in.ensures.answer
