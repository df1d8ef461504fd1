use Rattle.byte_view.proofs.TagPlaces.{entry_named_first}
use Rattle.dyn_table.proofs.laws.first_entry_is_named.Goals as goal

pub returns : goal.returns
returns c = entry_named_first
