-- The new bytes of a file, by its stop
use Rattle.std.proofs.Common.{◌≡◌, ℕ, List, Option, Some, None, Ok, Err, refl, ap, subst}
use Rattle.answers.specs.First.{value_unless}
use Rattle.load_model.specs.Escaping.{AreBytes}
use Rattle.load_model.specs.Faces.{face_of, face_or_flaw, first_flaw}
use Rattle.load_model.specs.declared.faces.Face.{Face}
use Rattle.two_files.specs.Alike.{face_with}
use Rattle.elf_rewrite.proofs.DoneLemmas.{new_file}
use Rattle.elf_rewrite.proofs.FaceFitsLemmas.{face_fits}
use Rattle.elf_rewrite.specs.FittingFace.{FitsFace}
use Rattle.elf_rewrite.specs.NewFile.{IsNewFile, wanted_of}
use Rattle.elf_rewrite.specs.Pieces.{laid}
use Rattle.elf_rewrite.specs.Rewriting.{rewriting}
use Rattle.elf_rewrite.specs.Stops.{stop_of}
use Rattle.elf_rewrite.specs.declared.change.Change.{Change}
use Rattle.elf_rewrite.specs.declared.change.RewriteStop.{RewriteStop}
use Rattle.object_rewriting.proofs.NamingLemmas.{with_face}
use Rattle.object_rewriting.specs.Rewritten.{rewritten}

pub goes : (b : List ℕ) (change : Change) → stop_of b change ≡ None → rewritten b change ≡ Ok (laid b (rewriting b change))
unfolding rewritten
goes b change h = ap (λ (stop : Option RewriteStop). value_unless stop (laid b (rewriting b change))) h

pub stops : (b : List ℕ) (change : Change) (stop : RewriteStop) → stop_of b change ≡ Some stop → rewritten b change ≡ Err stop
unfolding rewritten
stops b change stop h = ap (λ (s : Option RewriteStop). value_unless s (laid b (rewriting b change))) h

has_value : (stop : Option RewriteStop) (c d : List ℕ) → value_unless stop c ≡ Ok d → (stop ≡ None) × (c ≡ d)
has_value None c d h = (refl, cc)
has_value (Some stop) c d h = absurd (cc)

went : (b c : List ℕ) (change : Change) → rewritten b change ≡ Ok c → (stop_of b change ≡ None) × (laid b (rewriting b change) ≡ c)
unfolding rewritten
went b c change h = has_value (stop_of b change) (laid b (rewriting b change)) c h

pub rewritten_new : (b c : List ℕ) (change : Change) (face : Face) → AreBytes b → face_or_flaw b ≡ Ok face → FitsFace change face → rewritten b change ≡ Ok c → IsNewFile b change c
rewritten_new b c change face bytes h fits e =
    let f = with_face b face h in
    let w = went b c change e in
    subst (λ (d : List ℕ). IsNewFile b change d) w.1 (new_file b change bytes f.0 (face_fits change face b f.1 fits) w.0)

face_is : (c : List ℕ) (face : Face) → first_flaw c ≡ None → face_of c ≡ face → face_or_flaw c ≡ Ok face
unfolding face_or_flaw
face_is c face e h = rw (e, h) refl

-- what a file with a face is rewritten to has a face
pub rewritten_face : (b c : List ℕ) (change : Change) (face : Face) → AreBytes b → face_or_flaw b ≡ Ok face → FitsFace change face → rewritten b change ≡ Ok c → face_or_flaw c ≡ Ok (face_with b (wanted_of b change))
rewritten_face b c change face bytes h fits e =
    let made = rewritten_new b c change face bytes h fits e in
    face_is c (face_with b (wanted_of b change)) made.unflawed made.face
