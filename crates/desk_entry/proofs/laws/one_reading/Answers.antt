use Rattle.desk_entry.proofs.StateLemmas.{one_reading}
use Rattle.desk_entry.proofs.laws.one_reading.Goals as goal

pub returns : goal.returns
returns c text a b p q = one_reading text a b p q
