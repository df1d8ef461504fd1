use Rattle.two_files.proofs.Image.{image_left}
use Rattle.two_files.proofs.laws.image_unmoved.Goals as goal

pub returns : goal.returns
returns c = image_left
