use Rattle.read_records.proofs.BuildBytesLemmas.{record_canonical, record_of_bytes}
use Rattle.read_records.proofs.record_laws.records_are_canonical.Goals as goal

pub returns-clause-canonical : goal.returns-clause-canonical
returns-clause-canonical c = record_canonical

pub returns-clause-bytes : goal.returns-clause-bytes
returns-clause-bytes c = record_of_bytes
