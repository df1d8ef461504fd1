-- A line is told by its text, and a text by lines.
use Rattle.std.proofs.Common.{◌≡◌, ◌≢◌, ◌∙◌, sym, ap, refl, ℕ, ◌≤◌, ◌==◌, List, [], ◌∷◌, ◌++◌, true, false, arith, append_assoc}
use Rattle.std.specs.Prelude.{slice_index, codes, Option, Some, None, not, Bool}
use Rattle.std.specs.List.{All, list_all}
use Rattle.std.specs.Fmt.{decimal}
use Rattle.std.specs.Str.Parse.{AllDigits, digits_value}
use Rattle.std.proofs.lemmas.Bool.{eqb-false, and_parts, not-true}
use Rattle.std.proofs.lemmas.Fmt.{digits_decimal, digits_value-decimal}
use Rattle.std.proofs.lemmas.Str.Parse.{IsNumeralModel, tells_digits}
use Rattle.std.proofs.lemmas.List.Elements.{All-nil, All-cons, All-append, All-weaker}
use Rattle.load_model.specs.Escaping.{escaped, AreBytes, version_text}
use Rattle.load_model.proofs.Escaped.{told, is_field}
use Rattle.host_record.specs.Lines.{AnswerBytes, IsRecordLine, LookupBytes, OptionBytes, answer_field, class_field, ended_line, line_text, look_fields, version_fields}
use Rattle.host_record.specs.declared.lines.Line.{Line}
use Rattle.host_record.specs.declared.lines.Line.TheVariants.{Head, Machine, Interp, Declare, Need, Require, Ask, End}
use Rattle.host_record.specs.declared.lines.Lookup.{Lookup}
use Rattle.host_record.specs.declared.records.Answer.{Answer}
use Rattle.host_record.specs.declared.records.Answer.TheVariants.{Nothing, Plain, Version}
use Rattle.host_record.proofs.CutLemmas.{cut_once}
use Rattle.host_record.proofs.FieldLemmas.{name_free, same_fields}

-- the digits of a decimal
digits_model : IsNumeralModel (AllDigits 10) (digits_value 10)
digits_model = record { to = λ ds p. p; from = λ ds p. p; same = λ ds p. refl }

same_number : (m n : ℕ) → m ≤ 65535 → n ≤ 65535 → decimal m ≡ decimal n → m ≡ n
same_number m n p q e = sym (digits_value-decimal digits_model m (omega arith)) ∙ (ap (digits_value 10) e ∙ digits_value-decimal digits_model n (omega arith))

digits_free : (ds : List ℕ) → AllDigits 10 ds → All (λ y. y ≢ 10) ds
digits_free [] p = All-nil (λ y. y ≢ 10)
digits_free (c ∷ cs) p = let w = tells_digits.parts c cs p in All-cons (λ y. y ≢ 10) c cs (λ e. omega arith) (digits_free cs w.1)

-- a text of known characters
free : (x : ℕ) (text : List ℕ) → list_all (λ c. not (c == x)) text ≡ true → All (λ y. y ≢ x) text
free x [] h = All-nil (λ y. y ≢ x)
free x (c ∷ cs) h =
    let w = and_parts (not (c == x)) (list_all (λ c. not (c == x)) cs) h in
    All-cons (λ y. y ≢ x) c cs (eqb-false c x (not-true (c == x) w.0)) (free x cs w.1)

above : (c : ℕ) → (0x21 ≤ c) × (c ≤ 0x7e) → c ≢ 10
above c p e = omega arith

name_ends : (name : List ℕ) → AreBytes name → All (λ y. y ≢ 10) (escaped name)
name_ends name p = All-weaker (λ c. (0x21 ≤ c) × (c ≤ 0x7e)) (λ y. y ≢ 10) above (escaped name) (is_field name p).printed

version_ends : (version : Option (List ℕ)) → OptionBytes version → All (λ y. y ≢ 10) (version_text version)
version_ends None p = free 10 (45 ∷ []) refl
version_ends (Some name) p = name_ends name p

-- no line holds a line feed
answer_ends : (answer : Answer) → AnswerBytes answer → All (λ y. y ≢ 10) (answer_field answer)
answer_ends Nothing p = free 10 (codes "none") refl
answer_ends Plain p = free 10 (codes "=-") refl
answer_ends (Version name) p = All-cons (λ y. y ≢ 10) 61 (escaped name) (λ e. omega arith) (name_ends name p)

class_ends : (call : Bool) → All (λ y. y ≢ 10) (class_field call)
class_ends true = free 10 (codes "c") refl
class_ends false = free 10 (codes "p") refl

field_more : (a b : List ℕ) → All (λ y. y ≢ 10) a → All (λ y. y ≢ 10) b → All (λ y. y ≢ 10) (a ++ 32 ∷ b)
field_more a b p q = All-append (λ y. y ≢ 10) a (32 ∷ b) p (All-cons (λ y. y ≢ 10) 32 b (λ e. omega arith) q)

look_ends : (l : Lookup) → LookupBytes l → All (λ y. y ≢ 10) (look_fields l)
look_ends l p =
    field_more (escaped l.lib) _ (name_ends l.lib p.lib)
    (field_more (escaped l.name) _ (name_ends l.name p.name)
    (field_more (version_text l.version) _ (version_ends l.version p.version)
    (field_more (class_field l.call) _ (class_ends l.call) (answer_ends l.answer p.answer))))

pub line_ends : (line : Line) → IsRecordLine line → All (λ y. y ≢ 10) (line_text line)
line_ends Head p = free 10 (codes "appdir-host 1") refl
line_ends (Machine m) p = All-append (λ y. y ≢ 10) (codes "machine ") (decimal m) (free 10 (codes "machine ") refl) (digits_free (decimal m) (digits_decimal digits_model m (omega arith)))
line_ends (Interp path) p = All-append (λ y. y ≢ 10) (codes "interp ") (escaped path) (free 10 (codes "interp ") refl) (name_ends path p.0)
line_ends (Declare name) p = All-append (λ y. y ≢ 10) (codes "lib ") (escaped name) (free 10 (codes "lib ") refl) (name_ends name p)
line_ends (Need name) p = All-append (λ y. y ≢ 10) (codes "need ") (escaped name) (free 10 (codes "need ") refl) (name_ends name p)
line_ends (Require lib version) p = All-append (λ y. y ≢ 10) (codes "version ") (version_fields lib version) (free 10 (codes "version ") refl) (field_more (escaped lib) (escaped version) (name_ends lib p.0) (name_ends version p.1))
line_ends (Ask l) p = All-append (λ y. y ≢ 10) (codes "look ") (look_fields l) (free 10 (codes "look ") refl) (look_ends l p)
line_ends End p = free 10 (codes "end") refl

-- the third character tells the kind
abbrev third : Line → ℕ
third Head = 112
third (Machine m) = 99
third (Interp path) = 116
third (Declare name) = 98
third (Need name) = 101
third (Require lib version) = 114
third (Ask lookup) = 111
third End = 100

third_is : (line : Line) → slice_index (line_text line) 2 ≡ third line
third_is Head = refl
third_is (Machine m) = refl
third_is (Interp path) = refl
third_is (Declare name) = refl
third_is (Need name) = refl
third_is (Require lib version) = refl
third_is (Ask lookup) = refl
third_is End = refl

differ : (k l : Line) → (third k == third l) ≡ false → line_text k ≡ line_text l → ⊥
differ k l d e = eqb-false (third k) (third l) d (sym (third_is k) ∙ (ap (λ t. slice_index t 2) e ∙ third_is l))

not_dash : (name : List ℕ) → AreBytes name → 45 ∷ [] ≡ escaped name → ⊥
not_dash name p e = (is_field name p).named (sym e)

same_version : (v w : Option (List ℕ)) → OptionBytes v → OptionBytes w → version_text v ≡ version_text w → v ≡ w
same_version None None p q e = refl
same_version None (Some b) p q e = absurd (not_dash b q e)
same_version (Some a) None p q e = absurd (not_dash a p (sym e))
same_version (Some a) (Some b) p q e = ap (λ n. Some n) (told a b p q e)

not_sign : (name : List ℕ) → AreBytes name → 61 ∷ 45 ∷ [] ≡ 61 ∷ escaped name → ⊥
not_sign name p e = let h : 45 ∷ [] ≡ escaped name = cc in not_dash name p h

same_answer : (a b : Answer) → AnswerBytes a → AnswerBytes b → answer_field a ≡ answer_field b → a ≡ b
same_answer Nothing Nothing p q e = refl
same_answer Nothing Plain p q e = cc
same_answer Nothing (Version w) p q e = cc
same_answer Plain Nothing p q e = cc
same_answer Plain Plain p q e = refl
same_answer Plain (Version w) p q e = absurd (not_sign w q e)
same_answer (Version v) Nothing p q e = cc
same_answer (Version v) Plain p q e = absurd (not_sign v p (sym e))
same_answer (Version v) (Version w) p q e = let h : escaped v ≡ escaped w = cc in ap (λ x. Version x) (told v w p q h)

same_class : (a b : Bool) → class_field a ≡ class_field b → a ≡ b
same_class true true e = refl
same_class true false e = let h : 99 ≡ 112 = ap (λ t. slice_index t 0) e in absurd (eqb-false 99 112 refl h)
same_class false true e = let h : 112 ≡ 99 = ap (λ t. slice_index t 0) e in absurd (eqb-false 112 99 refl h)
same_class false false e = refl

same_versions : (a v b w : List ℕ) → AreBytes a × AreBytes v → AreBytes b × AreBytes w → version_fields a v ≡ version_fields b w → Require a v ≡ Require b w
same_versions a v b w p q e =
    let f = cut_once 32 (escaped a) (escaped v) (escaped b) (escaped w) (name_free a p.0) (name_free b q.0) e in
    ap (λ n. Require n v) (told a b p.0 q.0 f.0) ∙ ap (λ n. Require b n) (told v w p.1 q.1 f.1)

same_lookup : (a b : Lookup) → LookupBytes a → LookupBytes b → look_fields a ≡ look_fields b → a ≡ b
same_lookup a b p q e =
    let f = same_fields a b p q e in
    ap (λ x. record { lib = x; name = a.name; version = a.version; call = a.call; answer = a.answer }) (told a.lib b.lib p.lib q.lib f.lib)
    ∙ (ap (λ x. record { lib = b.lib; name = x; version = a.version; call = a.call; answer = a.answer }) (told a.name b.name p.name q.name f.name)
    ∙ (ap (λ x. record { lib = b.lib; name = b.name; version = x; call = a.call; answer = a.answer }) (same_version a.version b.version p.version q.version f.version)
    ∙ (ap (λ x. record { lib = b.lib; name = b.name; version = b.version; call = x; answer = a.answer }) (same_class a.call b.call f.class)
    ∙ ap (λ x. record { lib = b.lib; name = b.name; version = b.version; call = b.call; answer = x }) (same_answer a.answer b.answer p.answer q.answer f.answer))))

pub same_line : (k l : Line) → IsRecordLine k → IsRecordLine l → line_text k ≡ line_text l → k ≡ l
same_line Head Head p q e = refl
same_line (Machine m) (Machine n) p q e = let same : decimal m ≡ decimal n = cc in ap (λ x. Machine x) (same_number m n p q same)
same_line (Interp a) (Interp b) p q e = let same : escaped a ≡ escaped b = cc in ap (λ x. Interp x) (told a b p.0 q.0 same)
same_line (Declare a) (Declare b) p q e = let same : escaped a ≡ escaped b = cc in ap (λ x. Declare x) (told a b p q same)
same_line (Need a) (Need b) p q e = let same : escaped a ≡ escaped b = cc in ap (λ x. Need x) (told a b p q same)
same_line (Require a v) (Require b w) p q e = let same : version_fields a v ≡ version_fields b w = cc in same_versions a v b w p q same
same_line (Ask a) (Ask b) p q e = let same : look_fields a ≡ look_fields b = cc in ap (λ x. Ask x) (same_lookup a b p q same)
same_line End End p q e = refl
same_line k l p q e = absurd (differ k l refl e)

-- the first line of a text, and what follows it
pub one_line : (k l : Line) (r s : List ℕ) → IsRecordLine k → IsRecordLine l → ended_line k ++ r ≡ ended_line l ++ s → (k ≡ l) × (r ≡ s)
one_line k l r s p q e =
    let h = sym (append_assoc (line_text k) (10 ∷ []) r) ∙ (e ∙ append_assoc (line_text l) (10 ∷ []) s) in
    let w = cut_once 10 (line_text k) r (line_text l) s (line_ends k p) (line_ends l q) h in
    (same_line k l p q w.0, w.1)
