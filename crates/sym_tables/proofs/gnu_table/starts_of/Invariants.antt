-- the places so far, and that of the next word
use Rattle.sym_tables.proofs.Runs.{AreStartsTo}
use Rattle.sym_tables.proofs.gnu_table.starts_of.Given as goal

abbrev pub invariant-loop-k : goal.invariant-loop-k
invariant-loop-k l = AreStartsTo l.k l.start l.starts.items l.words
