use Rattle.std.proofs.Common.{length}
use Rattle.desk_entry.proofs.CutLemmas.{IsUpTo}
use Rattle.desk_entry.proofs.cutting.without_spaces_behind.Given as goal

abbrev pub invariant-spaces : goal.invariant-spaces
invariant-spaces l = IsUpTo l.fn.text l.rest

abbrev pub decreases-spaces : goal.decreases-spaces
decreases-spaces l = length l.rest
