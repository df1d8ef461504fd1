use Rattle.load_model.proofs.DecidingLemmas.{opened_up, run_searched, searched_run, up_opened}
use Rattle.load_model.proofs.search_laws.search_opens_up_to_deciding.Goals as goal

pub returns-clause-only : goal.returns-clause-only
returns-clause-only c = opened_up

pub returns-clause-all : goal.returns-clause-all
returns-clause-all c = up_opened

pub returns-clause-run_only : goal.returns-clause-run_only
returns-clause-run_only c = run_searched

pub returns-clause-run_all : goal.returns-clause-run_all
returns-clause-run_all c = searched_run
