use Rattle.host_record.proofs.TextLemmas.{name_there}
use Rattle.host_record.proofs.writing.lib_name.Goals as goal

pub returns : goal.returns
returns c = name_there c.args.libs.now c.args.number c.index-libs-number.result c.requires
