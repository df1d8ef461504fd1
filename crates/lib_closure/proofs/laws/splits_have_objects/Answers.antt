use Rattle.lib_closure.proofs.ReachedLemmas.{all_there, hosts_closed}
use Rattle.lib_closure.proofs.laws.splits_have_objects.Goals as goal

pub returns-clause-objects : goal.returns-clause-objects
returns-clause-objects c = all_there

pub returns-clause-hosts : goal.returns-clause-hosts
returns-clause-hosts c = hosts_closed
