-- Words of the form PROGRAM OUT [NAME ..].
use Rattle.std.proofs.Common.{ℕ, List, [], ◌∷◌, ◌++◌, false, Option, Some, ◌≡◌, ◌∙◌, refl, ap}
use Rattle.std.specs.Prelude.{codes}
use Rattle.std.specs.List.{fold, list_any}
use Rattle.clap.specs.Walk.{Held, Row, Text, Walk, finished, idle, nothing_held, positional, value, walked}
use Rattle.clap.specs.Simple.{Shape, built}
use Rattle.clap.specs.Faults.{defaults_fault, fault_of, step_fault, walk_fault}
use Rattle.clap.proofs.FaultLemmas.{leaf_fault}
use Rattle.clap.specs.declared.error.kind.ErrorKind.TheVariants.{MissingRequiredArgument}
use Rattle.command_words.specs.Words.{is_unshaped}
use Rattle.command_words.proofs.FlaglessLemmas.{at, end_fault, fault_from, fitting, front, many_fault, many_rows, onto, onward, onward_rows, unfit}
use Rattle.command_words.specs.Forms.{Fits, more_rows, quick_app, quick_found, row}

abbrev shape : Shape
shape = (built quick_app).top

abbrev one : Text → Held
one program = record { rows = []; pending = Some (codes "program", program ∷ []); skip = 0 }

abbrev two : Text → Text → Held
two program out = record { rows = row (codes "program") (program ∷ []) ∷ []; pending = Some (codes "out", out ∷ []); skip = 0 }

abbrev rows : Text → Text → List Text → List Row
rows program out names = row (codes "program") (program ∷ []) ∷ row (codes "out") (out ∷ []) ∷ more_rows (codes "names") names

abbrev more : Text → Text → List Text → Text → Held
more program out taken last = record { rows = rows program out taken; pending = Some (codes "names", last ∷ []); skip = 0 }

-- where each word leads
to_one : (program : Text) → onto shape nothing_held idle 1 program ≡ at (one program) idle 2
unfolding onto
to_one program = refl

to_two : (program out : Text) → onto shape (one program) idle 2 out ≡ at (two program out) idle 3
unfolding onto
to_two program out = refl

to_name : (program out name : Text) → onto shape (two program out) idle 3 name ≡ at (more program out [] name) positional 3
unfolding onto
to_name program out name = refl

to_more : (program out : Text) (taken : List Text) (last name : Text) → onto shape (more program out taken last) positional 3 name ≡ at (more program out (taken ++ last ∷ []) name) positional 3
unfolding onto
to_more program out [] last name = refl
to_more program out (word ∷ taken) last name = refl

step_more : (program out : Text) (taken : List Text) (last : Text) → step_fault shape 3 (more program out taken last) value ≡ []
step_more program out [] last = refl
step_more program out (word ∷ taken) last = refl

-- what is wrong at the end
end_none : end_fault shape nothing_held ≡ MissingRequiredArgument ∷ []
unfolding end_fault defaults_fault
end_none = refl

end_one : (program : Text) → end_fault shape (one program) ≡ MissingRequiredArgument ∷ []
unfolding end_fault defaults_fault
end_one program = refl

end_two : (program out : Text) → end_fault shape (two program out) ≡ []
unfolding end_fault defaults_fault
end_two program out = refl

end_more : (program out : Text) (taken : List Text) (last : Text) → end_fault shape (more program out taken last) ≡ []
unfolding end_fault defaults_fault
end_more program out [] last = refl
end_more program out (word ∷ taken) last = refl

found_more : (program out : Text) (taken : List Text) (last : Text) → finished shape.rules (more program out taken last) ≡ rows program out (taken ++ last ∷ [])
found_more program out [] last = refl
found_more program out (word ∷ taken) last = refl

level : (verb : Text) (words : List Text) → fault_of quick_app (verb ∷ words) ≡ fault_from shape (at nothing_held idle 1) words
unfolding fault_from end_fault
level verb words = leaf_fault (built quick_app) nothing_held words refl

ends : (h : Held) (position : ℕ) → fault_from shape (at h idle position) [] ≡ end_fault shape h
unfolding fault_from walk_fault
ends h position = refl

pub quick_fits : (verb : Text) (words : List Text) (fitted : Option (List Row)) → list_any is_unshaped words ≡ false → Fits quick_app (verb ∷ words) fitted → fitted ≡ quick_found words
quick_fits verb [] fitted shaped fits = unfit quick_app (verb ∷ []) fitted MissingRequiredArgument [] (level verb [] ∙ (ends nothing_held 1 ∙ end_none)) fits
quick_fits verb (program ∷ []) fitted shaped fits =
    let both = front (is_unshaped program) false shaped in
    unfit quick_app (verb ∷ program ∷ []) fitted MissingRequiredArgument []
    (level verb (program ∷ []) ∙ (onward shape nothing_held 1 (at (one program) idle 2) program [] both.0 (to_one program) refl ∙ (ends (one program) 2 ∙ end_one program))) fits
quick_fits verb (program ∷ out ∷ []) fitted shaped fits =
    let both = front (is_unshaped program) (list_any is_unshaped (out ∷ [])) shaped in
    let then = front (is_unshaped out) false both.1 in
    let here : fold (walked shape.rules []) (at nothing_held idle 1) (program ∷ out ∷ []) ≡ at (two program out) idle 3
    = onward_rows shape nothing_held 1 (at (one program) idle 2) program (out ∷ []) both.0 (to_one program)
    ∙ onward_rows shape (one program) 2 (at (two program out) idle 3) out [] then.0 (to_two program out) in
    fitting quick_app (verb ∷ program ∷ out ∷ []) fitted (rows program out [])
    (level verb (program ∷ out ∷ []) ∙ (onward shape nothing_held 1 (at (one program) idle 2) program (out ∷ []) both.0 (to_one program) refl
    ∙ (onward shape (one program) 2 (at (two program out) idle 3) out [] then.0 (to_two program out) refl ∙ (ends (two program out) 3 ∙ end_two program out))))
    (ap (λ (w : Walk). finished shape.rules w.held) here) fits
quick_fits verb (program ∷ out ∷ name ∷ names) fitted shaped fits =
    let both = front (is_unshaped program) (list_any is_unshaped (out ∷ name ∷ names)) shaped in
    let then = front (is_unshaped out) (list_any is_unshaped (name ∷ names)) both.1 in
    let last = front (is_unshaped name) (list_any is_unshaped names) then.1 in
    let here : fold (walked shape.rules []) (at nothing_held idle 1) (program ∷ out ∷ name ∷ names) ≡ fold (walked shape.rules []) (at (more program out [] name) positional 3) names
    = onward_rows shape nothing_held 1 (at (one program) idle 2) program (out ∷ name ∷ names) both.0 (to_one program)
    ∙ (onward_rows shape (one program) 2 (at (two program out) idle 3) out (name ∷ names) then.0 (to_two program out)
    ∙ onward_rows shape (two program out) 3 (at (more program out [] name) positional 3) name names last.0 (to_name program out name)) in
    fitting quick_app (verb ∷ program ∷ out ∷ name ∷ names) fitted (rows program out (name ∷ names))
    (level verb (program ∷ out ∷ name ∷ names) ∙ (onward shape nothing_held 1 (at (one program) idle 2) program (out ∷ name ∷ names) both.0 (to_one program) refl
    ∙ (onward shape (one program) 2 (at (two program out) idle 3) out (name ∷ names) then.0 (to_two program out) refl
    ∙ (onward shape (two program out) 3 (at (more program out [] name) positional 3) name names last.0 (to_name program out name) refl
    ∙ many_fault shape 3 (more program out) (rows program out) (to_more program out) (step_more program out) (end_more program out) (found_more program out) names [] name last.1))))
    (ap (λ (w : Walk). finished shape.rules w.held) here
    ∙ many_rows shape 3 (more program out) (rows program out) (to_more program out) (step_more program out) (end_more program out) (found_more program out) names [] name last.1) fits
