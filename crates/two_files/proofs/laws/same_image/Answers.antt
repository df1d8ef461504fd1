use Rattle.two_files.proofs.Image.{same_image}
use Rattle.two_files.proofs.laws.same_image.Goals as goal

pub returns : goal.returns
returns c = same_image
