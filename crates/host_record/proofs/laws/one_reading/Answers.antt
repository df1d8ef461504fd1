use Rattle.host_record.proofs.ReadingLemmas.{says_one, refuses_one, says_or_refuses}
use Rattle.host_record.proofs.laws.one_reading.Goals as goal

pub returns-clause-says : goal.returns-clause-says
returns-clause-says c = says_one

pub returns-clause-refuses : goal.returns-clause-refuses
returns-clause-refuses c = refuses_one

pub returns-clause-either : goal.returns-clause-either
returns-clause-either c = says_or_refuses
