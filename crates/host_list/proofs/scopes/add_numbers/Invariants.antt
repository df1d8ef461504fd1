use Rattle.std.proofs.Common.{◌≡◌, drop}
use Rattle.load_model.specs.LoadList.{with_numbers}
use Rattle.host_list.proofs.scopes.add_numbers.Given as goal

abbrev pub invariant-loop-number : goal.invariant-loop-number
invariant-loop-number l = with_numbers l.scope.items (drop l.number-index l.numbers) ≡ with_numbers l.fn.scope.items l.numbers
