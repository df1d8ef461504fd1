use Rattle.std.proofs.Common.{◌≡◌, ◌++◌}
use Rattle.std.specs.Vec.Iter.{into_iter_items}
use Rattle.host_record.proofs.reading.listed.Given as goal

abbrev pub invariant-loop-lib : goal.invariant-loop-lib
invariant-loop-lib l = l.list ++ into_iter_items l.lib-iterator ≡ l.fn.libs.items
