use Rattle.path_text.proofs.FolderLemmas.{path_of-folder_and_base as law}
use Rattle.path_text.proofs.laws.folder_and_base_join.Goals as goal

pub returns : goal.returns
returns c text h = law text h
