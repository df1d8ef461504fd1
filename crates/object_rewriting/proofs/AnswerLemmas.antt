-- What a rewriting answers, from its steps
use Rattle.std.proofs.Common.{◌≡◌, ℕ, ◌<◌, List, Ok, Err, length, refl, sym, ap, ◌∙◌, arith}
use Rattle.std.proofs.lemmas.Bool.{lt-ltb}
use Rattle.byte_view.specs.Checks.{flaw}
use Rattle.byte_view.specs.HeaderFlaws.{header_flaw, ident_flaw}
use Rattle.byte_view.specs.declared.constants.TheConstants.{LONGEST_FILE}
use Rattle.byte_view.specs.declared.flaws.TheConstants.{TOO_BIG}
use Rattle.load_model.specs.Faces.{face_or_flaw, first_flaw}
use Rattle.load_model.specs.declared.faces.Face.{Face}
use Rattle.elf_rewrite.specs.Pieces.{Overlay, laid}
use Rattle.elf_rewrite.specs.Rewriting.{rewriting}
use Rattle.elf_rewrite.specs.declared.change.Change.{Change}
use Rattle.object_rewriting.proofs.RewrittenLemmas.{goes, stops}
use Rattle.object_rewriting.specs.Rewritten.{IsRewriteAnswer, rewritten}
use Rattle.object_rewriting.specs.Steps.{IsEditOf, IsPlanned}
use Rattle.object_rewriting.specs.declared.stops.RewritingStop.{RewritingStop}
use Rattle.object_rewriting.specs.declared.stops.RewritingStop.TheVariants.{Rewrite, Changed, Read, NoMemory}

-- an edit is made for a file of its length
pub edit_len : (b : List ℕ) (change : Change) (edit : Overlay) → IsEditOf b change edit → edit.old_len ≡ length b
unfolding rewriting
edit_len b change edit h = ap (λ (o : Overlay). o.old_len) h.edit_is

-- the new bytes that are answered
pub edit_answers : (b : List ℕ) (change : Change) (edit : Overlay) (text : List ℕ) → IsEditOf b change edit → text ≡ laid b edit → IsRewriteAnswer (rewritten b change) (Ok text)
edit_answers b change edit text h is =
    let same : laid b (rewriting b change) ≡ text = sym (is ∙ ap (λ (o : Overlay). laid b o) h.edit_is) in
    goes b change h.goes ∙ ap (λ (t : List ℕ). Ok t) same

-- the stop that is answered
pub stop_answers : (b : List ℕ) (face : Face) (change : Change) (stop : RewritingStop) → IsPlanned b face change (Err stop) → face_or_flaw b ≡ Ok face → IsRewriteAnswer (rewritten b change) (Err stop)
stop_answers b face change (Rewrite stop) h e = stops b change stop h.stops
stop_answers b face change Changed h e = h e
stop_answers b face change Read h e = tt
stop_answers b face change NoMemory h e = tt

has_flaw : (b : List ℕ) → LONGEST_FILE < length b → face_or_flaw b ≡ Err (flaw TOO_BIG (length b) 0)
unfolding face_or_flaw first_flaw header_flaw ident_flaw
has_flaw b big = rw (lt-ltb LONGEST_FILE (length b) big) refl

-- a file that is too long has no face
pub too_long : (b : List ℕ) (len : ℕ) (face : Face) → length b ≡ len → LONGEST_FILE < len → face_or_flaw b ≡ Ok face → ⊥
too_long b len face is long h =
    let big : LONGEST_FILE < length b = omega arith in
    let flawed : face_or_flaw b ≡ Err (flaw TOO_BIG (length b) 0) = has_flaw b big in
    absurd (cc)
