use Rattle.std.proofs.Common.{◌≡◌, drop}
use Rattle.desk_entry.specs.Entries.{value_of}
use Rattle.desk_entry.proofs.entries.value_of.Given as goal

abbrev pub invariant-loop-pair : goal.invariant-loop-pair
invariant-loop-pair l = value_of (drop l.pair-index l.pair-items) l.key ≡ value_of l.fn.entries.pairs l.key
