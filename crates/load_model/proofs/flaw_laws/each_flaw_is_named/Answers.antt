use Rattle.load_model.proofs.FlawNaming.{first_flaw_named}
use Rattle.load_model.proofs.flaw_laws.each_flaw_is_named.Goals as goal

pub returns : goal.returns
returns c = first_flaw_named
