-- What lines come to, one after the other.
use Rattle.std.proofs.Common.{◌≡◌, ◌≢◌, ◌∙◌, sym, ap, refl, subst, ℕ, ◌+◌, List, [], ◌∷◌, ◌++◌, Bool, true, false, eqb}
use Rattle.std.specs.Prelude.{Option, Result, Ok, Err}
use Rattle.std.specs.Str.{is_utf8}
use Rattle.std.proofs.lemmas.Bool.{ne_eqb}
use Rattle.std.proofs.lemmas.List.Elements.{All-weaker}
use Rattle.std.proofs.lemmas.List.Splits.{slice_split_at, slice_split_none}
use Rattle.desk_entry.specs.Cuts.{IsFree}
use Rattle.desk_entry.specs.Lines.{IsLineOf, Line}
use Rattle.desk_entry.specs.States.{TakesText, nothing_said, said_or_fault}
use Rattle.desk_entry.specs.Reading.{AndThen, AreLinesRead, ComeTo, IsReadingOf, Reads, ReadsText, entries_of, lines_of}
use Rattle.desk_entry.specs.declared.entries.Entries.{Entries}
use Rattle.desk_entry.specs.declared.reading.DeskFault.{DeskFault}
use Rattle.desk_entry.specs.declared.reading.DeskFault.TheVariants.{NotUtf8, Line as AtLine, NoGroup, TwoGroups, TwoKeys, NoMemory}
use Rattle.desk_entry.specs.declared.states.State.{State}
use Rattle.desk_entry.proofs.LineLemmas.{one_line_of}

-- ---- the lines of a text

apart : (text : List ℕ) → IsFree 10 text → Rattle.std.specs.List.All (λ c. eqb c 10 ≡ false) text
apart text p = All-weaker (λ c. c ≢ 10) (λ c. eqb c 10 ≡ false) (λ c h. ne_eqb c 10 h) text p

pub first_line : (text line more : List ℕ) → IsFree 10 line → text ≡ line ++ 10 ∷ more → lines_of text ≡ line ∷ lines_of more
first_line text line more p e = ap lines_of e ∙ slice_split_at (λ c. eqb c 10) line 10 more (apart line p) refl

pub last_line : (text : List ℕ) → IsFree 10 text → lines_of text ≡ text ∷ []
last_line text p = slice_split_none (λ c. eqb c 10) text (apart text p)

-- ---- one outcome

then_one : (r a b : Result State DeskFault) (P : State → Result State DeskFault → Type 0) → ((t : State) → P t a → P t b → a ≡ b) → AndThen r a (λ t. P t a) → AndThen r b (λ t. P t b) → a ≡ b
then_one (Ok t) a b P same p q = same t p q
then_one (Err f) a b P same p q = p ∙ sym q

come_once : (texts : List (List ℕ)) (s : State) (n : ℕ) (a b : Result State DeskFault) → ComeTo s n texts a → ComeTo s n texts b → a ≡ b
come_once [] s n a b p q = p ∙ sym q
come_once (text ∷ texts) s n a b p q =
    let same = one_line_of text q.0 p.0 q.1 p.1 in
    then_one (said_or_fault s n p.0) a b (λ t r. ComeTo t (n + 1) texts r) (λ t. come_once texts t (n + 1) a b) p.2
    (subst (λ (l : Option Line). AndThen (said_or_fault s n l) b (λ t. ComeTo t (n + 1) texts b)) same q.2)

reads_once : (utf8 : Bool) (text : List ℕ) (a b : Result Entries DeskFault) → ReadsText utf8 text a → ReadsText utf8 text b → a ≡ b
reads_once false text a b p q = p ∙ sym q
reads_once true text a b p q = p.2 ∙ (ap entries_of (come_once (lines_of text) nothing_said 1 p.0 q.0 p.1 q.1) ∙ sym q.2)

pub one_reading : (text : List ℕ) (a b : Result Entries DeskFault) → Reads text a → Reads text b → a ≡ b
one_reading text a b p q = reads_once (is_utf8 text) text a b p q

-- ---- one line more

-- what the rest comes to from this state on is what the whole text comes to
abbrev pub Leads : List ℕ → State → ℕ → List (List ℕ) → Type 0
Leads text s n texts = (r : Result State DeskFault) → ComeTo s n texts r → ComeTo nothing_said 1 (lines_of text) r

comes_behind : (line : List ℕ) (old : State) (n : ℕ) (texts : List (List ℕ)) (r : Result State DeskFault) (l : Option Line) (went : Result State DeskFault) → IsLineOf line l → said_or_fault old n l ≡ went → AndThen went r (λ t. ComeTo t (n + 1) texts r) → ComeTo old n (line ∷ texts) r
comes_behind line old n texts r l went i e h = (l, i, subst (λ (x : Result State DeskFault). AndThen x r (λ t. ComeTo t (n + 1) texts r)) (sym e) h)

pub leads_on : {U : Type 0} (text line : List ℕ) (old new : State) (n : ℕ) (texts : List (List ℕ)) (u : U) → Leads text old n (line ∷ texts) → TakesText old n line (Ok u) new → Leads text new (n + 1) texts
leads_on text line old new n texts u f t = λ r h. f r (comes_behind line old n texts r t.0 (Ok new) t.1 t.2 h)

fails : (text line : List ℕ) (old : State) (n : ℕ) (texts : List (List ℕ)) (l : Option Line) (fault : DeskFault) → Leads text old n (line ∷ texts) → IsLineOf line l → said_or_fault old n l ≡ Err fault → ComeTo nothing_said 1 (lines_of text) (Err fault)
fails text line old n texts l fault f i e = f (Err fault) (comes_behind line old n texts (Err fault) l (Err fault) i e refl)

pub leads_to_fault : (U : Type 0) (text line : List ℕ) (old new : State) (n : ℕ) (texts : List (List ℕ)) (fault : DeskFault) → Leads text old n (line ∷ texts) → TakesText {U = U} old n line (Err fault) new → AreLinesRead text (Err fault)
leads_to_fault U text line old new n texts NotUtf8 f t = absurd t.2
leads_to_fault U text line old new n texts (AtLine m) f t = fails text line old n texts t.0 (AtLine m) f t.1 t.2
leads_to_fault U text line old new n texts NoGroup f t = absurd t.2
leads_to_fault U text line old new n texts (TwoGroups m) f t = fails text line old n texts t.0 (TwoGroups m) f t.1 t.2
leads_to_fault U text line old new n texts (TwoKeys m) f t = fails text line old n texts t.0 (TwoKeys m) f t.1 t.2
leads_to_fault U text line old new n texts NoMemory f t = tt

-- the same for the first line of what is left, and for the last
at_line : (text rest line more : List ℕ) (s : State) (n : ℕ) → Leads text s n (lines_of rest) → IsFree 10 line → rest ≡ line ++ 10 ∷ more → Leads text s n (line ∷ lines_of more)
at_line text rest line more s n f p e = subst (λ (ls : List (List ℕ)). Leads text s n ls) (first_line rest line more p e) f

pub line_fails : (U : Type 0) (text rest line more : List ℕ) (old new : State) (n : ℕ) (fault : DeskFault) → Leads text old n (lines_of rest) → IsFree 10 line → rest ≡ line ++ 10 ∷ more → TakesText {U = U} old n line (Err fault) new → AreLinesRead text (Err fault)
line_fails U text rest line more old new n fault f p e t = leads_to_fault U text line old new n (lines_of more) fault (at_line text rest line more old n f p e) t

pub line_goes : {U : Type 0} (text rest line more : List ℕ) (old new : State) (n : ℕ) (u : U) → Leads text old n (lines_of rest) → IsFree 10 line → rest ≡ line ++ 10 ∷ more → TakesText old n line (Ok u) new → Leads text new (n + 1) (lines_of more)
line_goes text rest line more old new n u f p e t = leads_on text line old new n (lines_of more) u (at_line text rest line more old n f p e) t

at_last : (text rest : List ℕ) (s : State) (n : ℕ) → Leads text s n (lines_of rest) → IsFree 10 rest → Leads text s n (rest ∷ [])
at_last text rest s n f p = subst (λ (ls : List (List ℕ)). Leads text s n ls) (last_line rest p) f

pub last_fails : (U : Type 0) (text rest : List ℕ) (old new : State) (n : ℕ) (fault : DeskFault) → Leads text old n (lines_of rest) → IsFree 10 rest → TakesText {U = U} old n rest (Err fault) new → AreLinesRead text (Err fault)
last_fails U text rest old new n fault f p t = leads_to_fault U text rest old new n [] fault (at_last text rest old n f p) t

pub last_goes : {U : Type 0} (text rest : List ℕ) (old new : State) (n : ℕ) (u : U) → Leads text old n (lines_of rest) → IsFree 10 rest → TakesText old n rest (Ok u) new → AreLinesRead text (Ok new)
last_goes text rest old new n u f p t = leads_on text rest old new n [] u (at_last text rest old n f p) t (Ok new) refl

-- ---- the whole text

is_reading : (text : List ℕ) (result : Result Entries DeskFault) → Reads text result → IsReadingOf text result
is_reading text (Ok entries) h = h
is_reading text (Err NotUtf8) h = h
is_reading text (Err (AtLine n)) h = h
is_reading text (Err NoGroup) h = h
is_reading text (Err (TwoGroups n)) h = h
is_reading text (Err (TwoKeys n)) h = h
is_reading text (Err NoMemory) h = tt

pub read_bytes : (text : List ℕ) → is_utf8 text ≡ false → Reads text (Err NotUtf8)
read_bytes text u = subst (λ (b : Bool). ReadsText b text (Err NotUtf8)) (sym u) refl

pub read_well : (text : List ℕ) (s : State) (result : Result Entries DeskFault) → is_utf8 text ≡ true → AreLinesRead text (Ok s) → result ≡ entries_of (Ok s) → IsReadingOf text result
read_well text s result u h e = is_reading text result (subst (λ (b : Bool). ReadsText b text result) (sym u) (Ok s, h, e))

pub read_ill : (text : List ℕ) (fault : DeskFault) → is_utf8 text ≡ true → AreLinesRead text (Err fault) → IsReadingOf text (Err fault)
read_ill text NotUtf8 u h = subst (λ (b : Bool). ReadsText b text (Err NotUtf8)) (sym u) (Err NotUtf8, h, refl)
read_ill text (AtLine m) u h = subst (λ (b : Bool). ReadsText b text (Err (AtLine m))) (sym u) (Err (AtLine m), h, refl)
read_ill text NoGroup u h = subst (λ (b : Bool). ReadsText b text (Err NoGroup)) (sym u) (Err NoGroup, h, refl)
read_ill text (TwoGroups m) u h = subst (λ (b : Bool). ReadsText b text (Err (TwoGroups m))) (sym u) (Err (TwoGroups m), h, refl)
read_ill text (TwoKeys m) u h = subst (λ (b : Bool). ReadsText b text (Err (TwoKeys m))) (sym u) (Err (TwoKeys m), h, refl)
read_ill text NoMemory u h = tt
