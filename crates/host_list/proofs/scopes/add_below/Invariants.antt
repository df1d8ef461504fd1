use Rattle.std.proofs.Common.{◌≡◌}
use Rattle.load_model.specs.LoadList.{up_to, with_numbers}
use Rattle.host_list.proofs.scopes.add_below.Given as goal

abbrev pub invariant-loop-number : goal.invariant-loop-number
invariant-loop-number l = l.scope.items ≡ with_numbers l.fn.scope.items (up_to l.number)
