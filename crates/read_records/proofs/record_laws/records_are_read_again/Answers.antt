use Rattle.build_texts.specs.Texts.{record_in}
use Rattle.host_record.specs.Grammar.{record_text}
use Rattle.read_records.proofs.BuildBytesLemmas.{record_canonical, record_of_bytes}
use Rattle.read_records.proofs.record_laws.records_are_read_again.Goals as goal

pub returns-clause-said : goal.returns-clause-said
returns-clause-said c world config b source builds =
    c.written_is_read.ensures (record_in b) (record_of_bytes world config b source builds) (record_canonical world config b builds)

pub returns-clause-only : goal.returns-clause-only
returns-clause-only c world config b r source builds says =
    c.one_reading.ensures.says (record_text (record_in b)) r (record_in b) says
    (c.written_is_read.ensures (record_in b) (record_of_bytes world config b source builds) (record_canonical world config b builds))
