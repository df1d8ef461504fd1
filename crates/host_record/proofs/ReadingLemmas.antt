-- A text has one reading.
use Rattle.std.proofs.Common.{◌≡◌, ◌∙◌, sym, ap, refl, ℕ, ◌+◌, List, [], ◌∷◌, ◌++◌, true, subst, append_assoc, append-nil, length}
use Rattle.host_record.specs.Lines.{ended_line, text_of_lines}
use Rattle.host_record.specs.Said.{section_of, may_follow, said, nothing_said}
use Rattle.host_record.specs.Grammar.{ComeInOrder, MayCome, section_after, said_after, Says, Refuses, IsReadAs, IsReadingOf, IsRefusedAtLine}
use Rattle.std.specs.Prelude.{Result, Ok, Err}
use Rattle.host_record.specs.declared.reading.RecordFault.{RecordFault}
use Rattle.host_record.specs.declared.reading.RecordFault.TheVariants.{Line as AtLine, NoMemory}
use Rattle.host_record.specs.declared.lines.Line.{Line}
use Rattle.host_record.specs.declared.lines.Line.TheVariants.{Head, Machine, Interp, Declare, Need, Require, Ask, End}
use Rattle.host_record.specs.declared.lines.Section.{Section}
use Rattle.host_record.specs.declared.lines.Section.TheVariants.{Start, Done}
use Rattle.host_record.specs.declared.records.Record.{Record}
use Rattle.host_record.proofs.LineLemmas.{one_line}

-- no line that may come next begins the rest
abbrev Stopped : Section → Record → List Line → List ℕ → Type 0
Stopped part r lines rest = (line : Line) (more : List ℕ) → MayCome (section_after part lines) (said_after r lines) line → rest ≡ ended_line line ++ more → ⊥

joined : (line : Line) (lines : List Line) (rest : List ℕ) → text_of_lines (line ∷ lines) ++ rest ≡ ended_line line ++ (text_of_lines lines ++ rest)
joined line lines rest = append_assoc (ended_line line) (text_of_lines lines) rest

same_lines : (part : Section) (r : Record) (ls ks : List Line) (rest left : List ℕ) → ComeInOrder part r ls → ComeInOrder part r ks → Stopped part r ls rest → Stopped part r ks left → text_of_lines ls ++ rest ≡ text_of_lines ks ++ left → (ls ≡ ks) × (rest ≡ left)
same_lines part r [] [] rest left p q s t e = (refl, e)
same_lines part r [] (k ∷ ks) rest left p q s t e = absurd (s k (text_of_lines ks ++ left) q.0 (e ∙ joined k ks left))
same_lines part r (l ∷ ls) [] rest left p q s t e = absurd (t l (text_of_lines ls ++ rest) p.0 (sym e ∙ joined l ls rest))
same_lines part r (l ∷ ls) (k ∷ ks) rest left p q s t e =
    let w = one_line l k (text_of_lines ls ++ rest) (text_of_lines ks ++ left) p.0.fits q.0.fits (sym (joined l ls rest) ∙ (e ∙ joined k ks left)) in
    let h = sym w.0 in
    let u = same_lines (section_of l) (said r l) ls ks rest left p.1
    (subst (λ (x : Line). ComeInOrder (section_of x) (said r x) ks) h q.1) s
    (subst (λ (x : Line). Stopped (section_of x) (said r x) ks left) h t) w.1 in
    (ap (λ x. x ∷ ls) w.0 ∙ ap (λ xs. k ∷ xs) u.0, u.1)

done_alone : (line : Line) → may_follow Done line ≡ true → ⊥
done_alone Head h = cc
done_alone (Machine m) h = cc
done_alone (Interp path) h = cc
done_alone (Declare name) h = cc
done_alone (Need name) h = cc
done_alone (Require lib version) h = cc
done_alone (Ask lookup) h = cc
done_alone End h = cc

done_stops : (lines : List Line) (rest : List ℕ) → section_after Start lines ≡ Done → Stopped Start nothing_said lines rest
done_stops lines rest d line more s e = done_alone line (subst (λ (p : Section). may_follow p line ≡ true) d s.follows)

whole : (text : List ℕ) (lines : List Line) → text ≡ text_of_lines lines → text ≡ text_of_lines lines ++ []
whole text lines e = e ∙ sym (append-nil (text_of_lines lines))

pub says_one : (text : List ℕ) (r s : Record) → Says text r → Says text s → r ≡ s
says_one text r s a b =
    let w = same_lines Start nothing_said a.lines b.lines [] [] a.each b.each (done_stops a.lines [] a.last) (done_stops b.lines [] b.last) (sym (whole text a.lines a.whole) ∙ whole text b.lines b.whole) in
    sym a.tells ∙ (ap (said_after nothing_said) w.0 ∙ b.tells)

pub refuses_one : (text : List ℕ) (m n : ℕ) → Refuses text m → Refuses text n → m ≡ n
refuses_one text m n a b =
    let w = same_lines Start nothing_said a.lines b.lines a.rest b.rest a.each b.each a.none b.none (sym a.parts ∙ b.parts) in
    a.number ∙ (ap (λ ls. length ls + 1) w.0 ∙ sym b.number)

pub says_or_refuses : (text : List ℕ) (r : Record) (n : ℕ) → Says text r → Refuses text n → ⊥
says_or_refuses text r n a b =
    let w = same_lines Start nothing_said a.lines b.lines [] b.rest a.each b.each (done_stops a.lines [] a.last) b.none (sym (whole text a.lines a.whole) ∙ b.parts) in
    b.unended (ap (section_after Start) (sym w.0) ∙ a.last) (sym w.1)

pub is_read : (text : List ℕ) (r : Record) (answer : Result Record RecordFault) → IsReadingOf text answer → Says text r → IsReadAs r answer
is_read text r (Ok s) p h = says_one text s r p h
is_read text r (Err (AtLine n)) p h = says_or_refuses text r n h p
is_read text r (Err NoMemory) p h = tt

pub is_refused : (text : List ℕ) (n : ℕ) (answer : Result Record RecordFault) → IsReadingOf text answer → Refuses text n → IsRefusedAtLine n answer
is_refused text n (Ok s) p h = says_or_refuses text s n p h
is_refused text n (Err (AtLine m)) p h = refuses_one text m n p h
is_refused text n (Err NoMemory) p h = tt
