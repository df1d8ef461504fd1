use Rattle.path_text.proofs.PathLemmas.{IsNormalPath-path_of as law}
use Rattle.path_text.proofs.laws.read_path_is_normal.Goals as goal

pub returns : goal.returns
returns c text path h = law text path h
