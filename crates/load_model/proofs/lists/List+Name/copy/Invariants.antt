use Rattle.std.proofs.Common.{◌≡◌, ◌++◌, drop}
use Rattle.load_model.proofs.lists.List+Name.copy.Given as goal

abbrev pub invariant-copy : goal.invariant-copy
invariant-copy l = l.names ++ drop l.name-index l.name-items ≡ l.name-items
