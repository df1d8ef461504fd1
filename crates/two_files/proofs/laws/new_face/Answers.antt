use Rattle.two_files.proofs.Face.{new_face}
use Rattle.two_files.proofs.laws.new_face.Goals as goal

pub returns-clause-unflawed : goal.returns-clause-unflawed
returns-clause-unflawed c = λ b d t e r. (new_face b d t e r).0

pub returns-clause-face : goal.returns-clause-face
returns-clause-face c = λ b d t e r. (new_face b d t e r).1
