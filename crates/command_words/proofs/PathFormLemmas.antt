-- Words of the form PATH [DIR ..], whatever the verb.
use Rattle.std.proofs.Common.{ℕ, List, [], ◌∷◌, ◌++◌, false, Option, Some, ◌≡◌, ◌∙◌, refl, ap}
use Rattle.std.specs.Prelude.{codes}
use Rattle.std.specs.List.{fold, list_any}
use Rattle.clap.specs.Walk.{Held, Row, Text, Walk, finished, idle, nothing_held, positional, value, walked}
use Rattle.clap.specs.Simple.{Shape, built}
use Rattle.clap.specs.Faults.{defaults_fault, fault_of, step_fault, walk_fault}
use Rattle.clap.proofs.FaultLemmas.{leaf_fault}
use Rattle.clap.specs.declared.error.kind.ErrorKind.TheVariants.{MissingRequiredArgument}
use Rattle.command_words.specs.Words.{is_unshaped}
use Rattle.command_words.proofs.FlaglessLemmas.{at, end_fault, fault_from, fitting, front, many_fault, many_rows, onto, onward, onward_rows, unfit}
use Rattle.command_words.specs.Forms.{Fits, more_rows, path_app, path_found, row}

abbrev shape : Text → Shape
shape of = (built (path_app of)).top

abbrev one : Text → Held
one path = record { rows = []; pending = Some (codes "path", path ∷ []); skip = 0 }

abbrev rows : Text → List Text → List Row
rows path dirs = row (codes "path") (path ∷ []) ∷ more_rows (codes "dirs") dirs

abbrev more : Text → List Text → Text → Held
more path taken last = record { rows = rows path taken; pending = Some (codes "dirs", last ∷ []); skip = 0 }

-- where each word leads
to_one : (of path : Text) → onto (shape of) nothing_held idle 1 path ≡ at (one path) idle 2
unfolding onto
to_one of path = refl

to_dir : (of path dir : Text) → onto (shape of) (one path) idle 2 dir ≡ at (more path [] dir) positional 2
unfolding onto
to_dir of path dir = refl

to_more : (of path : Text) (taken : List Text) (last dir : Text) → onto (shape of) (more path taken last) positional 2 dir ≡ at (more path (taken ++ last ∷ []) dir) positional 2
unfolding onto
to_more of path [] last dir = refl
to_more of path (word ∷ taken) last dir = refl

step_more : (of path : Text) (taken : List Text) (last : Text) → step_fault (shape of) 2 (more path taken last) value ≡ []
step_more of path [] last = refl
step_more of path (word ∷ taken) last = refl

-- what is wrong at the end
end_none : (of : Text) → end_fault (shape of) nothing_held ≡ MissingRequiredArgument ∷ []
unfolding end_fault defaults_fault
end_none of = refl

end_one : (of path : Text) → end_fault (shape of) (one path) ≡ []
unfolding end_fault defaults_fault
end_one of path = refl

end_more : (of path : Text) (taken : List Text) (last : Text) → end_fault (shape of) (more path taken last) ≡ []
unfolding end_fault defaults_fault
end_more of path [] last = refl
end_more of path (word ∷ taken) last = refl

found_more : (of path : Text) (taken : List Text) (last : Text) → finished (shape of).rules (more path taken last) ≡ rows path (taken ++ last ∷ [])
found_more of path [] last = refl
found_more of path (word ∷ taken) last = refl

level : (of : Text) (verb : Text) (words : List Text) → fault_of (path_app of) (verb ∷ words) ≡ fault_from (shape of) (at nothing_held idle 1) words
unfolding fault_from end_fault
level of verb words = leaf_fault (built (path_app of)) nothing_held words refl

ends : (of : Text) (h : Held) (position : ℕ) → fault_from (shape of) (at h idle position) [] ≡ end_fault (shape of) h
unfolding fault_from walk_fault
ends of h position = refl

pub path_fits : (of verb : Text) (words : List Text) (fitted : Option (List Row)) → list_any is_unshaped words ≡ false → Fits (path_app of) (verb ∷ words) fitted → fitted ≡ path_found words
path_fits of verb [] fitted shaped fits = unfit (path_app of) (verb ∷ []) fitted MissingRequiredArgument [] (level of verb [] ∙ (ends of nothing_held 1 ∙ end_none of)) fits
path_fits of verb (path ∷ []) fitted shaped fits =
    let both = front (is_unshaped path) false shaped in
    fitting (path_app of) (verb ∷ path ∷ []) fitted (rows path [])
    (level of verb (path ∷ []) ∙ (onward (shape of) nothing_held 1 (at (one path) idle 2) path [] both.0 (to_one of path) refl ∙ (ends of (one path) 2 ∙ end_one of path)))
    (ap (λ (w : Walk). finished (shape of).rules w.held) (onward_rows (shape of) nothing_held 1 (at (one path) idle 2) path [] both.0 (to_one of path))) fits
path_fits of verb (path ∷ dir ∷ dirs) fitted shaped fits =
    let both = front (is_unshaped path) (list_any is_unshaped (dir ∷ dirs)) shaped in
    let then = front (is_unshaped dir) (list_any is_unshaped dirs) both.1 in
    let here : fold (walked (shape of).rules []) (at nothing_held idle 1) (path ∷ dir ∷ dirs) ≡ fold (walked (shape of).rules []) (at (more path [] dir) positional 2) dirs
    = onward_rows (shape of) nothing_held 1 (at (one path) idle 2) path (dir ∷ dirs) both.0 (to_one of path)
    ∙ onward_rows (shape of) (one path) 2 (at (more path [] dir) positional 2) dir dirs then.0 (to_dir of path dir) in
    fitting (path_app of) (verb ∷ path ∷ dir ∷ dirs) fitted (rows path (dir ∷ dirs))
    (level of verb (path ∷ dir ∷ dirs) ∙ (onward (shape of) nothing_held 1 (at (one path) idle 2) path (dir ∷ dirs) both.0 (to_one of path) refl
    ∙ (onward (shape of) (one path) 2 (at (more path [] dir) positional 2) dir dirs then.0 (to_dir of path dir) refl
    ∙ many_fault (shape of) 2 (more path) (rows path) (to_more of path) (step_more of path) (end_more of path) (found_more of path) dirs [] dir then.1)))
    (ap (λ (w : Walk). finished (shape of).rules w.held) here
    ∙ many_rows (shape of) 2 (more path) (rows path) (to_more of path) (step_more of path) (end_more of path) (found_more of path) dirs [] dir then.1) fits
