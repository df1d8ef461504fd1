-- Words of the form CONFIG OUT.
use Rattle.std.proofs.Common.{ℕ, List, [], ◌∷◌, ◌++◌, false, Option, Some, ◌≡◌, ◌∙◌, refl, ap}
use Rattle.std.specs.Prelude.{codes}
use Rattle.std.specs.List.{fold, list_any}
use Rattle.clap.specs.Walk.{Held, Row, Text, Walk, finished, idle, nothing_held, walked}
use Rattle.clap.specs.Simple.{Shape, built}
use Rattle.clap.specs.Faults.{defaults_fault, fault_of, walk_fault}
use Rattle.clap.proofs.FaultLemmas.{leaf_fault}
use Rattle.clap.specs.declared.error.kind.ErrorKind.TheVariants.{MissingRequiredArgument, UnknownArgument}
use Rattle.command_words.specs.Words.{is_unshaped}
use Rattle.command_words.proofs.FlaglessLemmas.{at, end_fault, fault_from, fitting, front, onto, onward, onward_rows, stray, unfit}
use Rattle.command_words.specs.Forms.{Fits, build_app, build_found, row}

abbrev shape : Shape
shape = (built build_app).top

abbrev one : Text → Held
one config = record { rows = []; pending = Some (codes "config", config ∷ []); skip = 0 }

abbrev two : Text → Text → Held
two config out = record { rows = row (codes "config") (config ∷ []) ∷ []; pending = Some (codes "out", out ∷ []); skip = 0 }

abbrev rows : Text → Text → List Row
rows config out = row (codes "config") (config ∷ []) ∷ row (codes "out") (out ∷ []) ∷ []

-- where each word leads
to_one : (config : Text) → onto shape nothing_held idle 1 config ≡ at (one config) idle 2
unfolding onto
to_one config = refl

to_two : (config out : Text) → onto shape (one config) idle 2 out ≡ at (two config out) idle 3
unfolding onto
to_two config out = refl

-- what is wrong at the end
end_none : end_fault shape nothing_held ≡ MissingRequiredArgument ∷ []
unfolding end_fault defaults_fault
end_none = refl

end_one : (config : Text) → end_fault shape (one config) ≡ MissingRequiredArgument ∷ []
unfolding end_fault defaults_fault
end_one config = refl

end_two : (config out : Text) → end_fault shape (two config out) ≡ []
unfolding end_fault defaults_fault
end_two config out = refl

level : (verb : Text) (words : List Text) → fault_of build_app (verb ∷ words) ≡ fault_from shape (at nothing_held idle 1) words
unfolding fault_from end_fault
level verb words = leaf_fault (built build_app) nothing_held words refl

ends : (h : Held) (position : ℕ) → fault_from shape (at h idle position) [] ≡ end_fault shape h
unfolding fault_from walk_fault
ends h position = refl

pub build_fits : (verb : Text) (words : List Text) (fitted : Option (List Row)) → list_any is_unshaped words ≡ false → Fits build_app (verb ∷ words) fitted → fitted ≡ build_found words
build_fits verb [] fitted shaped fits = unfit build_app (verb ∷ []) fitted MissingRequiredArgument [] (level verb [] ∙ (ends nothing_held 1 ∙ end_none)) fits
build_fits verb (config ∷ []) fitted shaped fits =
    let both = front (is_unshaped config) false shaped in
    unfit build_app (verb ∷ config ∷ []) fitted MissingRequiredArgument []
    (level verb (config ∷ []) ∙ (onward shape nothing_held 1 (at (one config) idle 2) config [] both.0 (to_one config) refl ∙ (ends (one config) 2 ∙ end_one config))) fits
build_fits verb (config ∷ out ∷ []) fitted shaped fits =
    let both = front (is_unshaped config) (list_any is_unshaped (out ∷ [])) shaped in
    let then = front (is_unshaped out) false both.1 in
    let here : fold (walked shape.rules []) (at nothing_held idle 1) (config ∷ out ∷ []) ≡ at (two config out) idle 3
    = onward_rows shape nothing_held 1 (at (one config) idle 2) config (out ∷ []) both.0 (to_one config)
    ∙ onward_rows shape (one config) 2 (at (two config out) idle 3) out [] then.0 (to_two config out) in
    fitting build_app (verb ∷ config ∷ out ∷ []) fitted (rows config out)
    (level verb (config ∷ out ∷ []) ∙ (onward shape nothing_held 1 (at (one config) idle 2) config (out ∷ []) both.0 (to_one config) refl
    ∙ (onward shape (one config) 2 (at (two config out) idle 3) out [] then.0 (to_two config out) refl ∙ (ends (two config out) 3 ∙ end_two config out))))
    (ap (λ (w : Walk). finished shape.rules w.held) here) fits
build_fits verb (config ∷ out ∷ word ∷ words) fitted shaped fits =
    let both = front (is_unshaped config) (list_any is_unshaped (out ∷ word ∷ words)) shaped in
    let then = front (is_unshaped out) (list_any is_unshaped (word ∷ words)) both.1 in
    let last = front (is_unshaped word) (list_any is_unshaped words) then.1 in
    unfit build_app (verb ∷ config ∷ out ∷ word ∷ words) fitted UnknownArgument []
    (level verb (config ∷ out ∷ word ∷ words) ∙ (onward shape nothing_held 1 (at (one config) idle 2) config (out ∷ word ∷ words) both.0 (to_one config) refl
    ∙ (onward shape (one config) 2 (at (two config out) idle 3) out (word ∷ words) then.0 (to_two config out) refl
    ∙ stray shape (two config out) 3 word words UnknownArgument last.0 refl))) fits
