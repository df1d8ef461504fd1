use Rattle.elf_rewrite.proofs.FaceFitsLemmas.{face_fits}
use Rattle.elf_rewrite.proofs.laws.face_fits.Goals as goal

pub returns : goal.returns
returns c = λ change face b e f. face_fits change face b e f
