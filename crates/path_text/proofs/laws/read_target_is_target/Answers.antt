use Rattle.path_text.proofs.TargetLemmas.{IsTarget-target_of as law}
use Rattle.path_text.proofs.laws.read_target_is_target.Goals as goal

pub returns : goal.returns
returns c text target h = law text target h
