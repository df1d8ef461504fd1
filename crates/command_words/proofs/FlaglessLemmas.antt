-- Words that are no flags, one after the other, as a form takes them.
use Rattle.std.proofs.Common.{ℕ, List, [], ◌∷◌, ◌++◌, Bool, true, false, Option, Some, None, ◌≡◌, ◌∙◌, ◌==◌, ◌||◌, refl, ap, ap₂, append_assoc}
use Rattle.std.specs.List.{fold, list_any}
use Rattle.clap.specs.Walk.{Held, Row, Rule, Step, Text, Waiting, Walk, idle, positional, after_step, arg_by_index, finished, settled, to_positional, value, walked, word_met}
use Rattle.clap.specs.Simple.{App, Shape, matches_of}
use Rattle.clap.specs.Kinds.{Kinds, or_else}
use Rattle.clap.specs.Faults.{check_fault, defaults_fault, fault_of, settle_fault, step_fault, turn_fault, walk_fault, word_fault}
use Rattle.clap.specs.declared.error.kind.ErrorKind.{ErrorKind}
use Rattle.command_words.specs.Forms.{Fits}
use Rattle.command_words.specs.Words.{is_unshaped}

abbrev pub at : Held → Waiting → ℕ → Walk
at h waiting position = record { held = h; waiting = waiting; position = position; is_trailing = false; stopped = None }

met_idle : (c : List Rule) (position : ℕ) (word : Text) (h : Held) → is_unshaped word ≡ false → word_met c [] false idle position word h ≡ (h, value)
met_idle c position [] h e = cc
met_idle c position (x ∷ xs) h e = rw e (rw e refl)

met_more : (c : List Rule) (position : ℕ) (word : Text) (h : Held) → is_unshaped word ≡ false → word_met c [] false positional position word h ≡ (h, value)
met_more c position [] h e = cc
met_more c position (x ∷ xs) h e = rw e (rw e refl)

no_fault_idle : (s : Shape) (word : Text) (h : Held) → is_unshaped word ≡ false → word_fault s [] false idle word h ≡ []
no_fault_idle s [] h e = cc
no_fault_idle s (x ∷ xs) h e = rw e (rw e refl)

no_fault_more : (s : Shape) (word : Text) (h : Held) → is_unshaped word ≡ false → word_fault s [] false positional word h ≡ []
no_fault_more s [] h e = cc
no_fault_more s (x ∷ xs) h e = rw e (rw e refl)

-- ---- one word after the other

-- the walk after a word that goes to a positional
unfoldable pub onto : Shape → Held → Waiting → ℕ → Text → Walk
onto s h waiting position word = to_positional s.rules (arg_by_index s.rules position) word (at h waiting position) h

-- what is wrong behind the last word
unfoldable pub end_fault : Shape → Held → Kinds
end_fault s h = or_else (settle_fault s.rules s.args_override_self h)
    (or_else (defaults_fault (settled s.rules h).rows s.rules) (check_fault s (finished s.rules h) false))

-- what is wrong from here on
unfoldable pub fault_from : Shape → Walk → List Text → Kinds
fault_from s w words = or_else (walk_fault s [] w words) (end_fault s (fold (walked s.rules []) w words).held)

or_else-assoc : (a b c : Kinds) → or_else (or_else a b) c ≡ or_else a (or_else b c)
or_else-assoc [] b c = refl
or_else-assoc (k ∷ ks) b c = refl

pub walked_idle : (s : Shape) (h : Held) (position : ℕ) (word : Text) → is_unshaped word ≡ false → walked s.rules [] (at h idle position) word ≡ onto s h idle position word
unfolding walked onto
walked_idle s h position word e = ap (λ (met : Held × Step). after_step s.rules word (at h idle position) met.0 met.1) (met_idle s.rules position word h e)

walked_more : (s : Shape) (h : Held) (position : ℕ) (word : Text) → is_unshaped word ≡ false → walked s.rules [] (at h positional position) word ≡ onto s h positional position word
unfolding walked onto
walked_more s h position word e = ap (λ (met : Held × Step). after_step s.rules word (at h positional position) met.0 met.1) (met_more s.rules position word h e)

pub turn_idle : (s : Shape) (h : Held) (position : ℕ) (word : Text) → is_unshaped word ≡ false → turn_fault s [] (at h idle position) word ≡ step_fault s position h value
turn_idle s h position word e =
    ap₂ (λ (own : Kinds) (met : Held × Step). or_else own (step_fault s position met.0 met.1)) (no_fault_idle s word h e) (met_idle s.rules position word h e)

turn_more : (s : Shape) (h : Held) (position : ℕ) (word : Text) → is_unshaped word ≡ false → turn_fault s [] (at h positional position) word ≡ step_fault s position h value
turn_more s h position word e =
    ap₂ (λ (own : Kinds) (met : Held × Step). or_else own (step_fault s position met.0 met.1)) (no_fault_more s word h e) (met_more s.rules position word h e)

pub next_fault : (s : Shape) (w after : Walk) (word : Text) (words : List Text) (own : Kinds) → turn_fault s [] w word ≡ own → walked s.rules [] w word ≡ after
    → fault_from s w (word ∷ words) ≡ or_else own (fault_from s after words)
unfolding fault_from walk_fault
next_fault s w after word words own turn step =
    or_else-assoc (turn_fault s [] w word) (walk_fault s [] (walked s.rules [] w word) words) (end_fault s (fold (walked s.rules []) (walked s.rules [] w word) words).held)
    ∙ ap₂ (λ (k : Kinds) (x : Walk). or_else k (or_else (walk_fault s [] x words) (end_fault s (fold (walked s.rules []) x words).held))) turn step

pub next_rows : (s : Shape) (w after : Walk) (word : Text) (words : List Text) → walked s.rules [] w word ≡ after → fold (walked s.rules []) w (word ∷ words) ≡ fold (walked s.rules []) after words
next_rows s w after word words step = ap (λ (x : Walk). fold (walked s.rules []) x words) step

-- the first word, and the words behind it
pub front : (a b : Bool) → (a || b) ≡ false → (a ≡ false) × (b ≡ false)
front true b e = absurd (cc)
front false b e = (refl, e)

-- a word that a form has a place for, where nothing waits for more
pub onward : (s : Shape) (h : Held) (position : ℕ) (after : Walk) (word : Text) (words : List Text) → is_unshaped word ≡ false
    → onto s h idle position word ≡ after → step_fault s position h value ≡ [] → fault_from s (at h idle position) (word ∷ words) ≡ fault_from s after words
onward s h position after word words shaped to step =
    next_fault s (at h idle position) after word words [] (turn_idle s h position word shaped ∙ step) (walked_idle s h position word shaped ∙ to)

pub onward_rows : (s : Shape) (h : Held) (position : ℕ) (after : Walk) (word : Text) (words : List Text) → is_unshaped word ≡ false
    → onto s h idle position word ≡ after → fold (walked s.rules []) (at h idle position) (word ∷ words) ≡ fold (walked s.rules []) after words
onward_rows s h position after word words shaped to =
    next_rows s (at h idle position) after word words (walked_idle s h position word shaped ∙ to)

-- a word too many
pub stray : (s : Shape) (h : Held) (position : ℕ) (word : Text) (words : List Text) (k : ErrorKind) → is_unshaped word ≡ false
    → step_fault s position h value ≡ k ∷ [] → fault_from s (at h idle position) (word ∷ words) ≡ k ∷ []
stray s h position word words k shaped step =
    next_fault s (at h idle position) (onto s h idle position word) word words (k ∷ []) (turn_idle s h position word shaped ∙ step) (walked_idle s h position word shaped)

-- ---- words that may stand there, as many as there are

module _ (s : Shape) (position : ℕ) (held : List Text → Text → Held) (rows : List Text → List Row)
    (to : (taken : List Text) (last word : Text) → onto s (held taken last) positional position word ≡ at (held (taken ++ last ∷ []) word) positional position)
    (step : (taken : List Text) (last : Text) → step_fault s position (held taken last) value ≡ [])
    (end : (taken : List Text) (last : Text) → end_fault s (held taken last) ≡ [])
    (found : (taken : List Text) (last : Text) → finished s.rules (held taken last) ≡ rows (taken ++ last ∷ [])) where
  pub many_fault : (words taken : List Text) (last : Text) → list_any is_unshaped words ≡ false → fault_from s (at (held taken last) positional position) words ≡ []
  unfolding fault_from walk_fault
  many_fault [] taken last shaped = end taken last
  many_fault (word ∷ words) taken last shaped =
      let both = front (is_unshaped word) (list_any is_unshaped words) shaped in
      next_fault s (at (held taken last) positional position) (at (held (taken ++ last ∷ []) word) positional position) word words []
      (turn_more s (held taken last) position word both.0 ∙ step taken last) (walked_more s (held taken last) position word both.0 ∙ to taken last word)
      ∙ many_fault words (taken ++ last ∷ []) word both.1

  pub many_rows : (words taken : List Text) (last : Text) → list_any is_unshaped words ≡ false
      → finished s.rules (fold (walked s.rules []) (at (held taken last) positional position) words).held ≡ rows (taken ++ last ∷ words)
  many_rows [] taken last shaped = found taken last
  many_rows (word ∷ words) taken last shaped =
      let both = front (is_unshaped word) (list_any is_unshaped words) shaped in
      ap (λ (w : Walk). finished s.rules w.held)
      (next_rows s (at (held taken last) positional position) (at (held (taken ++ last ∷ []) word) positional position) word words
      (walked_more s (held taken last) position word both.0 ∙ to taken last word))
      ∙ many_rows words (taken ++ last ∷ []) word both.1
      ∙ ap rows (append_assoc taken (last ∷ []) (word ∷ words))

-- ---- what reading by a form comes to

pub fitting : (form : App) (words : List Text) (fitted : Option (List Row)) (rows : List Row) → fault_of form words ≡ [] → matches_of form words ≡ rows → Fits form words fitted → fitted ≡ Some rows
fitting form words None rows none found fits = absurd (fits none)
fitting form words (Some given) rows none found fits = ap Some (fits.1 ∙ found)

pub unfit : (form : App) (words : List Text) (fitted : Option (List Row)) (k : ErrorKind) (ks : Kinds) → fault_of form words ≡ k ∷ ks → Fits form words fitted → fitted ≡ None
unfit form words None k ks fault fits = refl
unfit form words (Some given) k ks fault fits = let none = fits.0 in absurd (cc)
