-- A change that fits the face of a file can be made to it
use Rattle.std.proofs.Common.{◌≡◌, ℕ, List, subst}
use Rattle.load_model.specs.Faces.{face_of}
use Rattle.load_model.specs.declared.faces.Face.{Face}
use Rattle.elf_rewrite.specs.FittingFace.{FitsFace}
use Rattle.elf_rewrite.specs.NewFile.{Fits}
use Rattle.elf_rewrite.specs.declared.change.Change.{Change}

fits_file : (change : Change) (b : List ℕ) → FitsFace change (face_of b) → Fits change b
unfolding face_of
fits_file change b f = record {
  needs = f.needs;
  files = f.files;
  alike = f.alike;
  soname = f.soname;
  need_texts = f.need_texts;
  file_texts = f.file_texts;
  soname_text = f.soname_text;
  path_text = f.path_text;
}

pub face_fits : (change : Change) (face : Face) (b : List ℕ) → face ≡ face_of b → FitsFace change face → Fits change b
face_fits change face b e f = fits_file change b (subst (λ g. FitsFace change g) e f)
