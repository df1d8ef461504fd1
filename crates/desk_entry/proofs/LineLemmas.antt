-- A text is a line of one kind alone.
use Rattle.std.proofs.Common.{◌≡◌, ◌∙◌, sym, ap, refl, subst, append_assoc, ℕ, List, [], ◌∷◌, ◌++◌, Bool, true, false, eqb}
use Rattle.std.specs.Prelude.{Option, Some, None}
use Rattle.std.specs.List.{list_all}
use Rattle.std.proofs.lemmas.Bool.{and_parts, both_ways, eqb-true}
use Rattle.std.proofs.lemmas.List.{append_cancel_right}
use Rattle.desk_entry.specs.Cuts.{IsEnd, IsFree, IsStart}
use Rattle.desk_entry.specs.Lines.{AreSpaces, IsEntryText, IsKey, IsKeyName, IsLine, IsLineOf, Line, quiet, group, entry, bracketed, is_key_byte, is_quiet, text_or_none}
use Rattle.desk_entry.proofs.CutLemmas.{free_both, free_of, one_cut, one_end, one_start, stands}
use Rattle.desk_entry.proofs.KeyLemmas.{key_ends, key_free}

-- ---- entries

-- a text that is cut at its sign, and what stands at the sides
pub made_entry : (text a b key value : List ℕ) → text ≡ a ++ 61 ∷ b → IsStart a key → IsEnd b value → IsKey key → IsEntryText text key value
made_entry text a b key value e s t k = record {
  keyed = k;
  before = s.spaces;
  behind = t.spaces;
  spaces_before = s.are_spaces;
  spaces_behind = t.are_spaces;
  begins = t.no_more;
  spelled = e ∙ (ap (λ x. x ++ 61 ∷ b) s.whole ∙ (append_assoc key s.spaces (61 ∷ b) ∙ ap (λ x. key ++ (s.spaces ++ 61 ∷ x)) t.whole));
}

-- the sides of an entry's sign
pub record HasSides (a b : List ℕ) {text key value : List ℕ} (i : IsEntryText text key value) : Type 0 where
  pub left : a ≡ key ++ i.before
  pub right : b ≡ i.behind ++ value

spaces_free : (s : List ℕ) → AreSpaces s → IsFree 61 s
spaces_free s h = free_of (λ c. eqb c 32) 61 s refl h

pub sides : (text a b key value : List ℕ) → IsFree 61 a → text ≡ a ++ 61 ∷ b → (i : IsEntryText text key value) → HasSides a b i
sides text a b key value free e i =
    let w = one_cut 61 a b (key ++ i.before) (i.behind ++ value) free
    (free_both 61 key i.before (key_free key i.keyed) (spaces_free i.before i.spaces_before))
    (sym e ∙ (i.spelled ∙ sym (append_assoc key i.before (61 ∷ (i.behind ++ value))))) in
    record { left = w.0; right = w.1 }

-- the key of an entry stands before the spaces on the left
pub key_there : (text a b found key value : List ℕ) → IsFree 61 a → text ≡ a ++ 61 ∷ b → IsStart a found → IsEntryText text key value → found ≡ key
key_there text a b found key value free e s i =
    let w = sides text a b key value free e i in
    one_start found s.spaces key i.before s.are_spaces i.spaces_before s.no_more (key_ends key i.keyed) (sym s.whole ∙ w.left)

pub no_sign : (text key value : List ℕ) → IsFree 61 text → IsEntryText text key value → ⊥
no_sign text key value free i =
    stands 61 (key ++ i.before) (i.behind ++ value)
    (subst (IsFree 61) (i.spelled ∙ sym (append_assoc key i.before (61 ∷ (i.behind ++ value)))) free)

one_entry : (text key value k v : List ℕ) → IsEntryText text key value → IsEntryText text k v → (key ≡ k) × (value ≡ v)
one_entry text key value k v i j =
    let w = sides text (key ++ i.before) (i.behind ++ value) k v
    (free_both 61 key i.before (key_free key i.keyed) (spaces_free i.before i.spaces_before))
    (i.spelled ∙ sym (append_assoc key i.before (61 ∷ (i.behind ++ value)))) j in (
      one_start key i.before k j.before i.spaces_before j.spaces_before (key_ends key i.keyed) (key_ends k j.keyed) w.left,
      one_end i.behind value j.behind v i.spaces_behind j.spaces_behind i.begins j.begins w.right,
    )

-- ---- one kind

-- the first byte of an entry is one of a name
pub record BeginsAs (text : List ℕ) : Type 0 where
  pub first : ℕ
  pub rest : List ℕ
  pub fits : is_key_byte first ≡ true
  pub whole : text ≡ first ∷ rest

named_so : (name more : List ℕ) → IsKeyName name → BeginsAs (name ++ more)
named_so [] more h = absurd (h.0 refl)
named_so (c ∷ name) more h = record { first = c; rest = name ++ more; fits = (and_parts (is_key_byte c) (list_all is_key_byte name) h.1).0; whole = refl }

entry_begins : (text key value : List ℕ) → IsEntryText text key value → BeginsAs text
entry_begins text key value i =
    let more = i.before ++ 61 ∷ (i.behind ++ value) in
    let e = i.spelled ∙ (ap (λ x. x ++ more) i.keyed.spelled ∙ append_assoc i.keyed.name (text_or_none i.keyed.locale) more) in
    subst BeginsAs (sym e) (named_so i.keyed.name (text_or_none i.keyed.locale ++ more) i.keyed.named)

-- a byte of a key is no sign of a comment, no blank and no bracket
other : (c x : ℕ) (b : Bool) → is_key_byte c ≡ true → is_key_byte x ≡ false → eqb c x ≡ b → b ≡ false
other c x true alike unlike e = absurd (both_ways (is_key_byte x) unlike (ap is_key_byte (sym (eqb-true c x e)) ∙ alike))
other c x false alike unlike e = refl

loud : (c : ℕ) (rest : List ℕ) (x y z : Bool) → eqb c 35 ≡ x → eqb c 32 ≡ y → eqb c 9 ≡ z → x ≡ false → y ≡ false → z ≡ false → is_quiet (c ∷ rest) ≡ false
loud c rest true y z p q r h k l = cc
loud c rest false true z p q r h k l = cc
loud c rest false false true p q r h k l = cc
loud c rest false false false p q r h k l = rw (p, q, r) refl

key_is_loud : (text : List ℕ) → BeginsAs text → is_quiet text ≡ true → ⊥
key_is_loud text b h =
    let c = b.first in
    both_ways (is_quiet (c ∷ b.rest))
    (loud c b.rest (eqb c 35) (eqb c 32) (eqb c 9) refl refl refl (other c 35 (eqb c 35) b.fits refl refl) (other c 32 (eqb c 32) b.fits refl refl) (other c 9 (eqb c 9) b.fits refl refl))
    (ap is_quiet (sym b.whole) ∙ h)

head_is_loud : (text name : List ℕ) → text ≡ bracketed name → is_quiet text ≡ true → ⊥
head_is_loud text name e h = both_ways false refl (sym (ap is_quiet e) ∙ h)

head_or_key : (text name : List ℕ) → BeginsAs text → text ≡ bracketed name → ⊥
head_or_key text name b e =
    let same : b.first ≡ 91 = let w = sym b.whole ∙ e in cc in
    both_ways (is_key_byte 91) refl (ap is_key_byte (sym same) ∙ b.fits)

pub one_line : (text : List ℕ) (a b : Line) → IsLine text a → IsLine text b → a ≡ b
one_line text quiet quiet p q = refl
one_line text quiet (group name) p q = absurd (head_is_loud text name q.1 p)
one_line text quiet (entry key value) p q = absurd (key_is_loud text (entry_begins text key value q) p)
one_line text (group name) quiet p q = absurd (head_is_loud text name p.1 q)
one_line text (group name) (group other_name) p q =
    let w = sym p.1 ∙ q.1 in
    ap group (append_cancel_right name other_name (93 ∷ []) cc)
one_line text (group name) (entry key value) p q = absurd (head_or_key text name (entry_begins text key value q) p.1)
one_line text (entry key value) quiet p q = absurd (key_is_loud text (entry_begins text key value p) q)
one_line text (entry key value) (group name) p q = absurd (head_or_key text name (entry_begins text key value p) q.1)
one_line text (entry key value) (entry k v) p q =
    let w = one_entry text key value k v p q in
    ap (λ x. entry x value) w.0 ∙ ap (λ x. entry k x) w.1

pub one_line_of : (text : List ℕ) (a b : Option Line) → IsLineOf text a → IsLineOf text b → a ≡ b
one_line_of text None None p q = refl
one_line_of text None (Some b) p q = absurd (p b q)
one_line_of text (Some a) None p q = absurd (q a p)
one_line_of text (Some a) (Some b) p q = ap Some (one_line text a b p q)

elim_line : (text : List ℕ) → is_quiet text ≡ false → ((name : List ℕ) → IsLine text (group name) → ⊥) → ((key value : List ℕ) → IsLine text (entry key value) → ⊥) → (line : Line) → IsLine text line → ⊥
elim_line text p q r quiet h = both_ways (is_quiet text) p h
elim_line text p q r (group name) h = q name h
elim_line text p q r (entry key value) h = r key value h

-- a text that is of none of the kinds
pub no_line : (text : List ℕ) → is_quiet text ≡ false → ((name : List ℕ) → IsLine text (group name) → ⊥) → ((key value : List ℕ) → IsLine text (entry key value) → ⊥) → IsLineOf text None
no_line text p q r = elim_line text p q r
