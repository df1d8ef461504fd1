use Rattle.path_text.proofs.PathLemmas.{path_of-IsNormalPath as law}
use Rattle.path_text.proofs.laws.normal_path_is_read_unchanged.Goals as goal

pub returns : goal.returns
returns c text h = law text h
