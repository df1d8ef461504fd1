use Rattle.load_model.proofs.Joined.{not_joined}
use Rattle.load_model.proofs.laws.odd_name_has_no_path.Goals as goal

pub returns : goal.returns
returns c dir name d h odd = not_joined dir name d h odd
