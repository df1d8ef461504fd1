use Rattle.std.proofs.Common.{◌≡◌, drop}
use Rattle.load_model.specs.LoadList.{with_numbers}
use Rattle.load_order.proofs.locals.add_new.Given as goal

abbrev pub invariant-loop-number : goal.invariant-loop-number
invariant-loop-number l = with_numbers l.list (drop l.number-index l.numbers) ≡ with_numbers l.initial.list l.numbers
