use Rattle.moved_runs.proofs.RunPathLemmas.{first_leads, lib_leads, other_leads}
use Rattle.moved_runs.proofs.place_laws.run_paths_lead_to_libraries.Goals as goal

pub returns-clause-first : goal.returns-clause-first
returns-clause-first c = first_leads

pub returns-clause-others : goal.returns-clause-others
returns-clause-others c = other_leads

pub returns-clause-libs : goal.returns-clause-libs
returns-clause-libs c = lib_leads
