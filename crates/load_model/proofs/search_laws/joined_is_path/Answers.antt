use Rattle.load_model.proofs.JoinedLemmas.{joined_is, same_dir}
use Rattle.load_model.proofs.search_laws.joined_is_path.Goals as goal

pub returns-clause-path : goal.returns-clause-path
returns-clause-path c = joined_is

pub returns-clause-dir : goal.returns-clause-dir
returns-clause-dir c = same_dir
