use Rattle.host_record.proofs.FieldLemmas.{no_parts}
use Rattle.host_record.proofs.lookups.look_fields.Goals as goal

pub returns-in-None : goal.returns-in-None
returns-in-None c l p e = no_parts c.args.text.now l c.in-None.ensures p e
