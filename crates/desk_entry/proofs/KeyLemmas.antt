-- What a key has in it.
use Rattle.std.proofs.Common.{◌≡◌, ◌≢◌, ◌∙◌, sym, ap, refl, subst, append_assoc, append-nil, ℕ, List, [], ◌∷◌, ◌++◌, true, arith}
use Rattle.std.specs.Prelude.{Option, Some, None}
use Rattle.std.proofs.lemmas.List.Elements.{All-cons, All-nil}
use Rattle.desk_entry.specs.Cuts.{IsFree}
use Rattle.desk_entry.specs.Lines.{HasLocale, IsKey, IsKeyName, IsLocaleText, bracketed, ends_in_another, is_key_byte, is_locale_byte, text_or_none}
use Rattle.desk_entry.proofs.CutLemmas.{ends_behind, ends_of, free_both, free_byte, free_of, one_cut, stands}

-- ---- what a key is not of

bracketed_free : (text : List ℕ) → IsFree 61 text → IsFree 61 (bracketed text)
bracketed_free text p = All-cons (λ y. y ≢ 61) 91 (text ++ 93 ∷ []) (λ e. omega arith) (free_both 61 text (93 ∷ []) p (free_byte 61 93 (λ e. omega arith)))

locale_free : (locale : Option (List ℕ)) → HasLocale locale → IsFree 61 (text_or_none locale)
locale_free None h = All-nil (λ y. y ≢ 61)
locale_free (Some text) h = subst (IsFree 61) (sym h.2) (bracketed_free h.0 (free_of is_locale_byte 61 h.0 refl h.1.1))

pub key_free : (key : List ℕ) → IsKey key → IsFree 61 key
key_free key k = subst (IsFree 61) (sym k.spelled) (free_both 61 k.name (text_or_none k.locale) (free_of is_key_byte 61 k.name refl k.named.1) (locale_free k.locale k.located))

ends_by : (name : List ℕ) (locale : Option (List ℕ)) → IsKeyName name → HasLocale locale → ends_in_another 32 (name ++ text_or_none locale) ≡ true
ends_by name None n h = ap (ends_in_another 32) (append-nil name) ∙ ends_of is_key_byte 32 name refl n.1
ends_by name (Some text) n h =
    ap (λ t. ends_in_another 32 (name ++ t)) h.2
    ∙ (ap (ends_in_another 32) (sym (append_assoc name (91 ∷ h.0) (93 ∷ [])))
    ∙ ends_behind 32 (name ++ 91 ∷ h.0) 93 refl)

pub key_ends : (key : List ℕ) → IsKey key → ends_in_another 32 key ≡ true
key_ends key k = ap (ends_in_another 32) k.spelled ∙ ends_by k.name k.locale k.named k.located

-- ---- a key by its parts

pub plain_key : (text : List ℕ) → IsKeyName text → IsKey text
plain_key text h = record { name = text; locale = None; named = h; located = tt; spelled = sym (append-nil text) }

pub key_at : (text name behind : List ℕ) → text ≡ name ++ 91 ∷ behind → IsKeyName name → IsLocaleText (91 ∷ behind) → IsKey text
key_at text name behind e n l = record { name = name; locale = Some (91 ∷ behind); named = n; located = l; spelled = e }

-- a name has no bracket
name_free : (name : List ℕ) → IsKeyName name → IsFree 91 name
name_free name n = free_of is_key_byte 91 name refl n.1

plain_by : (text name : List ℕ) (locale : Option (List ℕ)) → IsFree 91 text → IsKeyName name → HasLocale locale → text ≡ name ++ text_or_none locale → IsKeyName text
plain_by text name None free n h e = subst IsKeyName (sym (e ∙ append-nil name)) n
plain_by text name (Some l) free n h e = absurd (stands 91 name (h.0 ++ 93 ∷ []) (subst (IsFree 91) (e ∙ ap (λ t. name ++ t) h.2) free))

pub without_locale : (text : List ℕ) → IsFree 91 text → IsKey text → IsKeyName text
without_locale text free k = plain_by text k.name k.locale free k.named k.located k.spelled

parts_by : (text name behind n : List ℕ) (locale : Option (List ℕ)) → IsFree 91 name → text ≡ name ++ 91 ∷ behind → IsKeyName n → HasLocale locale → text ≡ n ++ text_or_none locale → IsKeyName name × IsLocaleText (91 ∷ behind)
parts_by text name behind n None free e k h g = absurd (stands 91 name behind (subst (IsFree 91) (sym (append-nil n) ∙ (sym g ∙ e)) (name_free n k)))
parts_by text name behind n (Some l) free e k h g =
    let w = one_cut 91 name behind n (h.0 ++ 93 ∷ []) free (name_free n k) (sym e ∙ (g ∙ ap (λ t. n ++ t) h.2)) in
    (subst IsKeyName (sym w.0) k, (h.0, h.1, ap (λ t. 91 ∷ t) w.1))

pub with_locale : (text name behind : List ℕ) → IsFree 91 name → text ≡ name ++ 91 ∷ behind → IsKey text → IsKeyName name × IsLocaleText (91 ∷ behind)
with_locale text name behind free e k = parts_by text name behind k.name k.locale free e k.named k.located k.spelled
