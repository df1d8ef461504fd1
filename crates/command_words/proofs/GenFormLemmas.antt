-- Words of the form N.
use Rattle.std.proofs.Common.{ℕ, List, [], ◌∷◌, ◌++◌, false, Option, Some, ◌≡◌, ◌∙◌, refl, ap}
use Rattle.std.specs.Prelude.{codes}
use Rattle.std.specs.List.{list_any}
use Rattle.clap.specs.Walk.{Held, Row, Text, Walk, finished, idle, nothing_held}
use Rattle.clap.specs.Simple.{Shape, built}
use Rattle.clap.specs.Faults.{defaults_fault, fault_of, walk_fault}
use Rattle.clap.proofs.FaultLemmas.{leaf_fault}
use Rattle.clap.specs.declared.error.kind.ErrorKind.TheVariants.{MissingRequiredArgument, UnknownArgument}
use Rattle.command_words.specs.Words.{is_unshaped}
use Rattle.command_words.proofs.FlaglessLemmas.{at, end_fault, fault_from, fitting, front, onto, onward, onward_rows, stray, unfit}
use Rattle.command_words.specs.Forms.{Fits, gen_app, gen_found, row}

abbrev shape : Shape
shape = (built gen_app).top

abbrev one : Text → Held
one count = record { rows = []; pending = Some (codes "count", count ∷ []); skip = 0 }

to_one : (count : Text) → onto shape nothing_held idle 1 count ≡ at (one count) idle 2
unfolding onto
to_one count = refl

end_none : end_fault shape nothing_held ≡ MissingRequiredArgument ∷ []
unfolding end_fault defaults_fault
end_none = refl

end_one : (count : Text) → end_fault shape (one count) ≡ []
unfolding end_fault defaults_fault
end_one count = refl

level : (verb : Text) (words : List Text) → fault_of gen_app (verb ∷ words) ≡ fault_from shape (at nothing_held idle 1) words
unfolding fault_from end_fault
level verb words = leaf_fault (built gen_app) nothing_held words refl

ends : (h : Held) (position : ℕ) → fault_from shape (at h idle position) [] ≡ end_fault shape h
unfolding fault_from walk_fault
ends h position = refl

pub gen_fits : (verb : Text) (words : List Text) (fitted : Option (List Row)) → list_any is_unshaped words ≡ false → Fits gen_app (verb ∷ words) fitted → fitted ≡ gen_found words
gen_fits verb [] fitted shaped fits = unfit gen_app (verb ∷ []) fitted MissingRequiredArgument [] (level verb [] ∙ (ends nothing_held 1 ∙ end_none)) fits
gen_fits verb (count ∷ []) fitted shaped fits =
    let both = front (is_unshaped count) false shaped in
    fitting gen_app (verb ∷ count ∷ []) fitted (row (codes "count") (count ∷ []) ∷ [])
    (level verb (count ∷ []) ∙ (onward shape nothing_held 1 (at (one count) idle 2) count [] both.0 (to_one count) refl ∙ (ends (one count) 2 ∙ end_one count)))
    (ap (λ (w : Walk). finished shape.rules w.held) (onward_rows shape nothing_held 1 (at (one count) idle 2) count [] both.0 (to_one count))) fits
gen_fits verb (count ∷ word ∷ words) fitted shaped fits =
    let both = front (is_unshaped count) (list_any is_unshaped (word ∷ words)) shaped in
    let then = front (is_unshaped word) (list_any is_unshaped words) both.1 in
    unfit gen_app (verb ∷ count ∷ word ∷ words) fitted UnknownArgument []
    (level verb (count ∷ word ∷ words) ∙ (onward shape nothing_held 1 (at (one count) idle 2) count (word ∷ words) both.0 (to_one count) refl
    ∙ stray shape (one count) 2 word words UnknownArgument then.0 refl)) fits
