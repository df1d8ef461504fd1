use Rattle.std.proofs.Common.{sym, subst}
use Rattle.build_texts.specs.Texts.{record_in}
use Rattle.host_record.specs.Grammar.{Says}
use Rattle.read_records.proofs.FileLemmas.{bytes_are, record_listed}
use Rattle.read_records.proofs.package_laws.record_files_are_read_again.Goals as goal

pub returns-clause-there : goal.returns-clause-there
returns-clause-there c = record_listed

pub returns-clause-said : goal.returns-clause-said
returns-clause-said c world config made ready source file among at =
    subst (λ text. Says text (record_in ready.building)) (sym (bytes_are world config made ready file among at))
    (c.records_are_read_again.ensures.said world config ready.building source ready.builds)

pub returns-clause-only : goal.returns-clause-only
returns-clause-only c world config made ready source file among at r says =
    c.records_are_read_again.ensures.only world config ready.building r source ready.builds
    (subst (λ text. Says text r) (bytes_are world config made ready file among at) says)
