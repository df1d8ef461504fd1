use Rattle.host_record.proofs.WrittenLemmas.{written}
use Rattle.host_record.proofs.laws.written_is_read.Goals as goal

pub returns : goal.returns
returns c = written
