use Rattle.path_text.proofs.FolderLemmas.{path_of-target as law}
use Rattle.path_text.proofs.laws.target_joins_behind_path.Goals as goal

pub returns : goal.returns
returns c path target h t = law path target h t
