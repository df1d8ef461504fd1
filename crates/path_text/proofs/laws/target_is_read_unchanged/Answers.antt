use Rattle.path_text.proofs.TargetLemmas.{target_of-IsTarget as law}
use Rattle.path_text.proofs.laws.target_is_read_unchanged.Goals as goal

pub returns : goal.returns
returns c text h = law text h
