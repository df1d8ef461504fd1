-- What the reader does with a line.
use Rattle.std.proofs.Common.{◌≡◌, ◌≢◌, ◌∙◌, sym, ap, refl, ℕ, zero, suc, ◌+◌, ◌<◌, List, [], ◌∷◌, ◌++◌, true, false, Bool, subst, append_assoc, append-nil, length, length-append, arith, slice_set}
use Rattle.std.specs.Prelude.{Some, slice_index_or}
use Rattle.std.specs.List.{All}
use Rattle.std.proofs.lemmas.Grind.{flat_map-append}
use Rattle.std.proofs.lemmas.List.Sums.{fold-append}
use Rattle.host_record.specs.Fields.{IsLine}
use Rattle.host_record.specs.Lines.{line_text, ended_line, text_of_lines}
use Rattle.host_record.specs.Said.{section_of, may_follow, said, is_right, nothing_said, lib_names, with_need}
use Rattle.host_record.specs.Grammar.{MayCome, section_after, said_after, Says, Refuses}
use Rattle.host_record.specs.Reached.{record_so_far, Takes, TakesText, Reached}
use Rattle.host_record.specs.declared.lines.Line.{Line}
use Rattle.host_record.specs.declared.lines.Section.{Section}
use Rattle.host_record.specs.declared.lines.Section.TheVariants.{Start, Done}
use Rattle.host_record.specs.declared.records.Record.{Record}
use Rattle.host_record.specs.declared.records.RecLib.{RecLib}
use Rattle.host_record.specs.declared.taking.Reading.{Reading}
use Rattle.host_record.proofs.OrderLemmas.{come_on}
use Rattle.host_record.proofs.LineLemmas.{same_line, line_ends}
use Rattle.host_record.proofs.CutLemmas.{cut_once, not_free}

-- the last library with one more need
pub set_last : (libs : List RecLib) (n : ℕ) (lib : RecLib) (need : List ℕ) (needs : List (List ℕ)) → n + 1 ≡ length libs → lib ≡ slice_index_or libs n lib → needs ≡ lib.needs ++ need ∷ [] → slice_set libs n (record { name = lib.name; needs = needs }) ≡ with_need libs need
set_last [] n lib need needs l e h = absurd (omega arith)
set_last (a ∷ []) zero lib need needs l e h = ap (λ ns. record { name = lib.name; needs = ns } ∷ []) h ∙ ap (λ (x : RecLib). record { name = x.name; needs = x.needs ++ need ∷ [] } ∷ []) e
set_last (a ∷ []) (suc n) lib need needs l e h = absurd (omega arith)
set_last (a ∷ b ∷ libs) zero lib need needs l e h = absurd (omega arith)
set_last (a ∷ b ∷ libs) (suc n) lib need needs l e h = ap (λ ls. a ∷ ls) (set_last (b ∷ libs) n lib need needs (omega arith) e h)

pub names_kept : (libs : List RecLib) (need : List ℕ) → lib_names (with_need libs need) ≡ lib_names libs
names_kept [] need = refl
names_kept (a ∷ []) need = refl
names_kept (a ∷ b ∷ libs) need = ap (λ ns. a.name ∷ ns) (names_kept (b ∷ libs) need)

-- the text of a line that was taken, or not
pub taken : (old new : Reading) (text : List ℕ) (line : Line) (fine : Bool) → IsLine text (Some line) → Takes old line fine new → TakesText old text fine new
taken old new text line true p h = (line, p.1, record { fits = p.0; follows = h.0; right = h.1 }, h.2, h.3, h.4)
taken old new text line false p h = λ other s e.
    let same = same_line other line s.fits p.0 (sym e ∙ p.1) in
    h (subst (λ (x : Line). may_follow old.section x ≡ true) same s.follows) (subst (λ (x : Line). is_right (record_so_far old) x ≡ true) same s.right)

-- what stands at the place that is reached
stands_there : (text rest : List ℕ) (n : ℕ) (old : Reading) (r : Reached text rest n old) (line : Line) → MayCome (section_after Start r.lines) (said_after nothing_said r.lines) line → MayCome old.section (record_so_far old) line
stands_there text rest n old r line s =
    subst (λ (p : Section). MayCome p (record_so_far old) line) (sym r.section) (subst (λ (x : Record). MayCome (section_after Start r.lines) x line) (sym r.tells) s)

stands_here : (text rest : List ℕ) (n : ℕ) (old : Reading) (r : Reached text rest n old) (line : Line) → MayCome old.section (record_so_far old) line → MayCome (section_after Start r.lines) (said_after nothing_said r.lines) line
stands_here text rest n old r line s =
    subst (λ (p : Section). MayCome p (said_after nothing_said r.lines) line) r.section (subst (λ (x : Record). MayCome old.section x line) r.tells s)

one_more : (text rest : List ℕ) (lines : List Line) (line : Line) (more : List ℕ) → text ≡ text_of_lines lines ++ rest → rest ≡ line_text line ++ 10 ∷ more → text ≡ text_of_lines (lines ++ line ∷ []) ++ more
one_more text rest lines line more e h =
    e ∙ (ap (λ t. text_of_lines lines ++ t) (h ∙ sym (append_assoc (line_text line) (10 ∷ []) more))
    ∙ (sym (append_assoc (text_of_lines lines) (ended_line line) more)
    ∙ ap (λ t. t ++ more) (ap (λ t. text_of_lines lines ++ t) (sym (append-nil (ended_line line))) ∙ sym (flat_map-append ended_line lines (line ∷ [])))))

pub step : (text rest at more : List ℕ) (n : ℕ) (old new : Reading) → Reached text rest n old → rest ≡ at ++ 10 ∷ more → TakesText old at true new → Reached text more (n + 1) new
step text rest at more n old new r e t =
    let line = t.0 in
    let s = stands_here text rest n old r line t.2 in
    record {
      lines = r.lines ++ line ∷ [];
      each = come_on Start nothing_said r.lines (line ∷ []) r.each (s, tt);
      parts = one_more text rest r.lines line more r.parts (e ∙ ap (λ x. x ++ 10 ∷ more) t.1);
      count = let long = length-append r.lines (line ∷ []) in let before = r.count in omega arith;
      section = t.3 ∙ sym (fold-append (λ (p : Section) (l : Line). section_of l) Start r.lines (line ∷ []));
      tells = t.4 ∙ (ap (λ (x : Record). said x line) r.tells ∙ sym (fold-append said nothing_said r.lines (line ∷ [])));
      agrees = t.5;
    }

nothing_left : (at more : List ℕ) → [] ≡ at ++ 10 ∷ more → ⊥
nothing_left [] more e = cc
nothing_left (c ∷ at) more e = cc

pub refuse_unended : (text rest : List ℕ) (n : ℕ) (old : Reading) → Reached text rest n old → 0 < length rest → All (λ c. c ≢ 10) rest → Refuses text n
refuse_unended text rest n old r some free = record {
  lines = r.lines;
  rest = rest;
  each = r.each;
  parts = r.parts;
  number = r.count;
  none = λ line more s e. not_free 10 (line_text line) more (subst (All (λ c. c ≢ 10)) (e ∙ append_assoc (line_text line) (10 ∷ []) more) free);
  unended = λ d e. let none = ap length e in absurd (omega arith);
}

pub refuse_line : (text rest at more : List ℕ) (n : ℕ) (old new : Reading) → Reached text rest n old → rest ≡ at ++ 10 ∷ more → All (λ c. c ≢ 10) at → TakesText old at false new → Refuses text n
refuse_line text rest at more n old new r e free t = record {
  lines = r.lines;
  rest = rest;
  each = r.each;
  parts = r.parts;
  number = r.count;
  none = λ line left s h.
      let w = cut_once 10 at more (line_text line) left free (line_ends line s.fits) (sym e ∙ (h ∙ append_assoc (line_text line) (10 ∷ []) left)) in
      t line (stands_there text rest n old r line s) w.0;
  unended = λ d h. nothing_left at more (sym h ∙ e);
}

pub refuse_end : (text rest : List ℕ) (n : ℕ) (old : Reading) → Reached text rest n old → length rest ≡ 0 → (old.section ≡ Done → ⊥) → Refuses text n
refuse_end text [] n old r none goes = record {
  lines = r.lines;
  rest = [];
  each = r.each;
  parts = r.parts;
  number = r.count;
  none = λ line more s e. nothing_left (line_text line) more (e ∙ append_assoc (line_text line) (10 ∷ []) more);
  unended = λ d h. goes (r.section ∙ d);
}
refuse_end text (c ∷ rest) n old r none goes = absurd (omega arith)

pub accept : (text rest : List ℕ) (n : ℕ) (old : Reading) → Reached text rest n old → length rest ≡ 0 → old.section ≡ Done → Says text (record_so_far old)
accept text [] n old r none done = record { lines = r.lines; each = r.each; last = sym r.section ∙ done; whole = r.parts ∙ append-nil (text_of_lines r.lines); tells = sym r.tells }
accept text (c ∷ rest) n old r none done = absurd (omega arith)
