use Rattle.sym_tables.proofs.Unflawed.{reach_low}
use Rattle.sym_tables.proofs.laws.reach_within_symbols.Goals as goal

pub returns : goal.returns
returns c = λ file reach none there. reach_low file reach none there
