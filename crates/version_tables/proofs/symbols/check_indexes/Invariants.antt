-- what is left answers as the whole
use Rattle.std.proofs.Common.{◌≡◌, length}
use Rattle.answers.specs.First.{first_some}
use Rattle.version_tables.specs.Indexes.{unknown_at}
use Rattle.version_tables.specs.Walks.{from_on}
use Rattle.version_tables.proofs.symbols.check_indexes.Given as goal

abbrev pub invariant-loop-symbol : goal.invariant-loop-symbol
invariant-loop-symbol l = first_some (from_on (unknown_at l.places l.words) l.symbol (length l.words)) ≡ first_some (from_on (unknown_at l.places l.words) 0 (length l.words))
