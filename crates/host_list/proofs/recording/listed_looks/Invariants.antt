use Rattle.std.proofs.Common.{◌≡◌, ◌++◌}
use Rattle.host_list.proofs.recording.listed_looks.Given as goal

abbrev pub invariant-list : goal.invariant-list
invariant-list l = l.list ++ l.look-iterator ≡ l.fn.looks.keys
