use Rattle.load_model.proofs.DecidingLemmas.{first_decided, first_decides, none_decided, none_decides}
use Rattle.load_model.proofs.search_laws.first_candidate_decides.Goals as goal

pub returns-clause-decides : goal.returns-clause-decides
returns-clause-decides c = first_decides

pub returns-clause-decided : goal.returns-clause-decided
returns-clause-decided c = first_decided

pub returns-clause-none : goal.returns-clause-none
returns-clause-none c = none_decides

pub returns-clause-passed : goal.returns-clause-passed
returns-clause-passed c = none_decided
