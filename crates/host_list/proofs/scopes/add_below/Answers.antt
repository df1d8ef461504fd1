use Rattle.host_list.proofs.NumberLemmas.{with_next}
use Rattle.host_list.proofs.scopes.add_below.Goals as goal

pub loop-number-preserved : goal.loop-number-preserved
loop-number-preserved c = with_next c.args.scope.now.items c.loop-number.scope.items c.add_number.new.scope.items c.loop-number.number c.loop-number.invariant c.in_ok-add_number.ensures
