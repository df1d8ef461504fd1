use Rattle.sym_tables.proofs.LeastOdd.{HasEnd, end_there, least_reach, no_reach_of_none, reach_least}
use Rattle.sym_tables.proofs.laws.reach_is_least.Goals as goal

pub returns-clause-none : goal.returns-clause-none
returns-clause-none c = λ file segments addr e. no_reach_of_none file segments addr e

pub returns-clause-there : goal.returns-clause-there
returns-clause-there c = λ file segments addr e h.
    let there : HasEnd file segments addr = end_there file segments addr e h in
    (there.last, there.reach)

pub returns-clause-least : goal.returns-clause-least
returns-clause-least c = λ file segments addr last e h.
    (λ r. reach_least file segments addr last h r, λ is. least_reach file segments addr last e h is)
