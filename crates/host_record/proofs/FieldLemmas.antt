-- Fields hold no space, so that the spaces of a line tell its fields.
use Rattle.std.proofs.Common.{◌≡◌, ◌≢◌, ◌∙◌, sym, ℕ, ◌≤◌, List, [], ◌∷◌, ◌++◌, true, false, Bool, arith, subst}
use Rattle.std.specs.Prelude.{Option, Some, None}
use Rattle.std.proofs.lemmas.List.Elements.{All-nil, All-cons}
use Rattle.load_model.specs.Escaping.{escaped, AreBytes, version_text}
use Rattle.load_model.proofs.Escaped.{is_field}
use Rattle.host_record.specs.Lines.{LookupBytes, OptionBytes, answer_field, class_field, look_fields}
use Rattle.host_record.specs.Fields.{AreFiveParts, IsFree, five_parts}
use Rattle.host_record.specs.declared.lines.Lookup.{Lookup}
use Rattle.host_record.specs.declared.lookups.Parts.{Parts}
use Rattle.host_record.proofs.CutLemmas.{All_weaker, cut_once, not_free}

above : (c : ℕ) → (0x21 ≤ c) × (c ≤ 0x7e) → c ≢ 32
above c p e = omega arith

pub name_free : (name : List ℕ) → AreBytes name → IsFree 32 (escaped name)
name_free name p = All_weaker (λ c. (0x21 ≤ c) × (c ≤ 0x7e)) (λ y. y ≢ 32) above (escaped name) (is_field name p).printed

one_free : (c : ℕ) → c ≢ 32 → IsFree 32 (c ∷ [])
one_free c h = All-cons (λ y. y ≢ 32) c [] h (All-nil (λ y. y ≢ 32))

version_free : (version : Option (List ℕ)) → OptionBytes version → IsFree 32 (version_text version)
version_free None p = one_free 45 (λ e. omega arith)
version_free (Some name) p = name_free name p

class_free : (call : Bool) → IsFree 32 (class_field call)
class_free true = one_free 99 (λ e. omega arith)
class_free false = one_free 112 (λ e. omega arith)

pub no_space : (text a b : List ℕ) → IsFree 32 text → text ≡ a ++ 32 ∷ b → ⊥
no_space text a b free e = not_free 32 a b (subst (IsFree 32) e free)

-- five parts are told by the text
pub record SameParts (a b c d e v w x y z : List ℕ) : Type 0 where
  pub first : a ≡ v
  pub second : b ≡ w
  pub third : c ≡ x
  pub fourth : d ≡ y
  pub fifth : e ≡ z

pub same_parts : (a b c d e v w x y z : List ℕ) → IsFree 32 a → IsFree 32 b → IsFree 32 c → IsFree 32 d → IsFree 32 v → IsFree 32 w → IsFree 32 x → IsFree 32 y → five_parts a b c d e ≡ five_parts v w x y z → SameParts a b c d e v w x y z
same_parts a b c d e v w x y z fa fb fc fd fv fw fx fy h =
    let p = cut_once 32 a (b ++ 32 ∷ (c ++ 32 ∷ (d ++ 32 ∷ e))) v (w ++ 32 ∷ (x ++ 32 ∷ (y ++ 32 ∷ z))) fa fv h in
    let q = cut_once 32 b (c ++ 32 ∷ (d ++ 32 ∷ e)) w (x ++ 32 ∷ (y ++ 32 ∷ z)) fb fw p.1 in
    let r = cut_once 32 c (d ++ 32 ∷ e) x (y ++ 32 ∷ z) fc fx q.1 in
    let s = cut_once 32 d e y z fd fy r.1 in
    record { first = p.0; second = q.0; third = r.0; fourth = s.0; fifth = s.1 }

-- looks whose fields are the same text have the same fields
pub record SameFields (a b : Lookup) : Type 0 where
  pub lib : escaped a.lib ≡ escaped b.lib
  pub name : escaped a.name ≡ escaped b.name
  pub version : version_text a.version ≡ version_text b.version
  pub class : class_field a.call ≡ class_field b.call
  pub answer : answer_field a.answer ≡ answer_field b.answer

pub same_fields : (a b : Lookup) → LookupBytes a → LookupBytes b → look_fields a ≡ look_fields b → SameFields a b
same_fields a b p q h =
    let s = same_parts (escaped a.lib) (escaped a.name) (version_text a.version) (class_field a.call) (answer_field a.answer) (escaped b.lib) (escaped b.name) (version_text b.version) (class_field b.call) (answer_field b.answer)
    (name_free a.lib p.lib) (name_free a.name p.name) (version_free a.version p.version) (class_free a.call) (name_free b.lib q.lib) (name_free b.name q.name) (version_free b.version q.version) (class_free b.call) h in
    record { lib = s.first; name = s.second; version = s.third; class = s.fourth; answer = s.fifth }

-- the parts of a text that is the fields of a look
pub record HasFieldsOf (p : Parts) (l : Lookup) : Type 0 where
  pub lib : p.lib.now ≡ escaped l.lib
  pub name : p.name.now ≡ escaped l.name
  pub version : p.version.now ≡ version_text l.version
  pub class : p.class.now ≡ class_field l.call
  pub answer : p.answer.now ≡ answer_field l.answer

pub parts_of_look : (text : List ℕ) (p : Parts) (l : Lookup) → AreFiveParts text p → LookupBytes l → text ≡ look_fields l → HasFieldsOf p l
parts_of_look text p l a b e =
    let s = same_parts p.lib.now p.name.now p.version.now p.class.now p.answer.now (escaped l.lib) (escaped l.name) (version_text l.version) (class_field l.call) (answer_field l.answer)
    a.lib a.name a.version a.class (name_free l.lib b.lib) (name_free l.name b.name) (version_free l.version b.version) (class_free l.call) (sym a.whole ∙ e) in
    record { lib = s.first; name = s.second; version = s.third; class = s.fourth; answer = s.fifth }

-- a text that is no five parts is the fields of no look
pub no_parts : (text : List ℕ) (l : Lookup) → ((a b c d e : List ℕ) → IsFree 32 a → IsFree 32 b → IsFree 32 c → IsFree 32 d → text ≡ five_parts a b c d e → ⊥) → LookupBytes l → text ≡ look_fields l → ⊥
no_parts text l none p e =
    none (escaped l.lib) (escaped l.name) (version_text l.version) (class_field l.call) (answer_field l.answer)
    (name_free l.lib p.lib) (name_free l.name p.name) (version_free l.version p.version) (class_free l.call) e
