use Rattle.std.proofs.Common.{◌∙◌, sym}
use Rattle.host_checks.proofs.RecordLemmas.{read_there}
use Rattle.host_checks.proofs.records.record_at.Goals as goal

pub returns-in-Ok-File-clause-answer : goal.returns-in-Ok-File-clause-answer
returns-in-Ok-File-clause-answer g c =
    read_there (g.T.Tree.seen c.args.tree.now) (g.T.Tree.seen c.probe.new.self) (g.T.Tree.seen c.record_in.new.tree) c.args.place.now c.in-Ok.path c.in-Ok-File.field-0-0 c.in-Ok-File.len c.record_in.result
    c.in-Ok.ensures c.probe.ensures.only_reads (λ world told. sym c.in-Ok-File.field-0-is ∙ c.in-Ok-File.ensures.found world told) c.record_in.ensures.answer
