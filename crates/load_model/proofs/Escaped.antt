-- Escaped texts are fields, and differ where the bytes differ.
use Rattle.std.proofs.Common.{◌≡◌, ◌∙◌, sym, ap, refl, ℕ, ◌+◌, ◌/◌, ◌%◌, ◌≤◌, ◌<◌, List, [], ◌∷◌, ◌++◌, Bool, true, false, cond, arith, subst, nat_lt, nat_le, ◌==◌, ◌&&◌, not}
use Rattle.std.specs.List.{flat_map, All}
use Rattle.std.specs.Str.{bytes_eq}
use Rattle.std.specs.Cmp.Lexicographic.{same_text}
use Rattle.std.proofs.lemmas.Bool.{and_parts, leb-true, ltb-true, ltb-false, eqb-false, not-true, both_ways}
use Rattle.std.proofs.lemmas.List.Elements.{All-nil, All-cons, All-head, All-tail, All-append}
use Rattle.load_model.specs.Escaping.{hex_digit, is_plain, escaped_byte, escaped, IsField, AreBytes}

abbrev IsPrinted : ℕ → Type 0
IsPrinted c = (0x21 ≤ c) × (c ≤ 0x7e)

plain_range : (c : ℕ) → is_plain c ≡ true → (0x21 ≤ c) × (c ≤ 0x7e) × (c ≡ 0x5c → ⊥)
plain_range c h =
    let p = and_parts (nat_le 0x21 c) (nat_le c 0x7e && not (c == 0x5c)) h in
    let q = and_parts (nat_le c 0x7e) (not (c == 0x5c)) p.1 in
    (leb-true 0x21 c p.0, leb-true c 0x7e q.0, eqb-false c 0x5c (not-true (c == 0x5c) q.1))

digit_range : (b : Bool) (n : ℕ) → nat_lt n 10 ≡ b → n < 16 → IsPrinted (cond b (48 + n) (87 + n))
digit_range true n e h = let below = ltb-true n 10 e in (omega arith, omega arith)
digit_range false n e h = let above = ltb-false n 10 e in (omega arith, omega arith)

digit_same : (a b : Bool) (m n : ℕ) → nat_lt m 10 ≡ a → nat_lt n 10 ≡ b → m < 16 → n < 16 → cond a (48 + m) (87 + m) ≡ cond b (48 + n) (87 + n) → m ≡ n
digit_same true true m n d e h g same = omega arith
digit_same true false m n d e h g same = let below = ltb-true m 10 d in let above = ltb-false n 10 e in omega arith
digit_same false true m n d e h g same = let below = ltb-true n 10 e in let above = ltb-false m 10 d in omega arith
digit_same false false m n d e h g same = omega arith

-- the four characters of a byte that is not plain
abbrev hidden : ℕ → List ℕ
hidden c = 0x5c ∷ 120 ∷ hex_digit (c / 16) ∷ hex_digit (c % 16) ∷ []

pub byte_same : (a b : Bool) (x y : ℕ) (r s : List ℕ) → is_plain x ≡ a → is_plain y ≡ b → x ≤ 255 → y ≤ 255 → cond a (x ∷ []) (hidden x) ++ r ≡ cond b (y ∷ []) (hidden y) ++ s → (x ≡ y) × (r ≡ s)
byte_same true true x y r s p q h g same = (cc, cc)
byte_same true false x y r s p q h g same = let e : x ≡ 0x5c = cc in absurd ((plain_range x p).2 e)
byte_same false true x y r s p q h g same = let e : y ≡ 0x5c = cc in absurd ((plain_range y q).2 e)
byte_same false false x y r s p q h g same =
    let first : hex_digit (x / 16) ≡ hex_digit (y / 16) = cc in
    let second : hex_digit (x % 16) ≡ hex_digit (y % 16) = cc in
    let high : x / 16 ≡ y / 16 = digit_same (nat_lt (x / 16) 10) (nat_lt (y / 16) 10) (x / 16) (y / 16) refl refl (omega arith) (omega arith) first in
    let low : x % 16 ≡ y % 16 = digit_same (nat_lt (x % 16) 10) (nat_lt (y % 16) 10) (x % 16) (y % 16) refl refl (omega arith) (omega arith) second in
    (omega arith, cc)

pub byte_some : (a : Bool) (x : ℕ) (r : List ℕ) → cond a (x ∷ []) (hidden x) ++ r ≡ [] → ⊥
byte_some true x r h = cc
byte_some false x r h = cc

flat_same : (xs ys : List ℕ) → AreBytes xs → AreBytes ys → flat_map escaped_byte xs ≡ flat_map escaped_byte ys → xs ≡ ys
flat_same [] [] p q h = refl
flat_same [] (y ∷ ys) p q h = absurd (byte_some (is_plain y) y (flat_map escaped_byte ys) (sym h))
flat_same (x ∷ xs) [] p q h = absurd (byte_some (is_plain x) x (flat_map escaped_byte xs) h)
flat_same (x ∷ xs) (y ∷ ys) p q h =
    let w = byte_same (is_plain x) (is_plain y) x y (flat_map escaped_byte xs) (flat_map escaped_byte ys) refl refl (All-head (λ c. c ≤ 255) x xs p) (All-head (λ c. c ≤ 255) y ys q) h in
    let rest = flat_same xs ys (All-tail (λ c. c ≤ 255) x xs p) (All-tail (λ c. c ≤ 255) y ys q) w.1 in
    ap (λ c. c ∷ xs) w.0 ∙ ap (λ cs. y ∷ cs) rest

-- two texts of which the second characters differ
differ : (m n : ℕ) (r s : List ℕ) → 0x5c ∷ m ∷ r ≡ 0x5c ∷ n ∷ s → (m == n) ≡ false → ⊥
differ m n r s h d = let e : m ≡ n = cc in eqb-false m n d e

-- no byte is written as the sign of the empty text begins
not_sign : (a : Bool) (x : ℕ) (r s : List ℕ) → is_plain x ≡ a → cond a (x ∷ []) (hidden x) ++ r ≡ 0x5c ∷ 101 ∷ s → ⊥
not_sign true x r s p h = let e : x ≡ 0x5c = cc in (plain_range x p).2 e
not_sign false x r s p h = differ 120 101 (hex_digit (x / 16) ∷ hex_digit (x % 16) ∷ r) s h refl

flat_not_sign : (xs s : List ℕ) → flat_map escaped_byte xs ≡ 0x5c ∷ 101 ∷ s → ⊥
flat_not_sign [] s h = cc
flat_not_sign (x ∷ xs) s h = not_sign (is_plain x) x (flat_map escaped_byte xs) s refl h

-- no byte is written as the text of `-` is
not_dash : (a : Bool) (x : ℕ) (r s : List ℕ) → x ≤ 255 → is_plain x ≡ a → cond a (x ∷ []) (hidden x) ++ r ≡ 0x5c ∷ 120 ∷ 50 ∷ 100 ∷ s → ⊥
not_dash true x r s le p h = let e : x ≡ 0x5c = cc in (plain_range x p).2 e
not_dash false x r s le p h =
    let first : hex_digit (x / 16) ≡ hex_digit 2 = cc in
    let second : hex_digit (x % 16) ≡ hex_digit 13 = cc in
    let high : x / 16 ≡ 2 = digit_same (nat_lt (x / 16) 10) (nat_lt 2 10) (x / 16) 2 refl refl (omega arith) (omega arith) first in
    let low : x % 16 ≡ 13 = digit_same (nat_lt (x % 16) 10) (nat_lt 13 10) (x % 16) 13 refl refl (omega arith) (omega arith) second in
    let is : x ≡ 45 = omega arith in
    both_ways (is_plain 45) (ap is_plain (sym is) ∙ p) refl

flat_not_dash : (xs s : List ℕ) → AreBytes xs → flat_map escaped_byte xs ≡ 0x5c ∷ 120 ∷ 50 ∷ 100 ∷ s → ⊥
flat_not_dash [] s p h = cc
flat_not_dash (x ∷ xs) s p h = not_dash (is_plain x) x (flat_map escaped_byte xs) s (All-head (λ c. c ≤ 255) x xs p) refl h

-- the three ways of writing
pub data Way (bytes text : List ℕ) : Type 0 where
  Nothing : bytes ≡ [] → text ≡ 0x5c ∷ 101 ∷ [] → Way bytes text
  Dash : bytes ≡ 45 ∷ [] → text ≡ 0x5c ∷ 120 ∷ 50 ∷ 100 ∷ [] → Way bytes text
  Bytes : (bytes ≡ [] → ⊥) → (bytes ≡ 45 ∷ [] → ⊥) → text ≡ flat_map escaped_byte bytes → Way bytes text

pub same_bytes : (xs ys : List ℕ) → bytes_eq xs ys ≡ true → xs ≡ ys
same_bytes xs ys h = same_text xs ys (sym h)

not_bytes : (xs ys : List ℕ) → bytes_eq ys ys ≡ true → bytes_eq xs ys ≡ false → xs ≡ ys → ⊥
not_bytes xs ys r h e = both_ways (bytes_eq xs ys) h (ap (λ zs. bytes_eq zs ys) e ∙ r)

way_at : (a b : Bool) (bytes : List ℕ) → bytes_eq bytes [] ≡ a → bytes_eq bytes (45 ∷ []) ≡ b → Way bytes (cond a (0x5c ∷ 101 ∷ []) (cond b (0x5c ∷ 120 ∷ 50 ∷ 100 ∷ []) (flat_map escaped_byte bytes)))
way_at true b bytes p q = Nothing (same_bytes bytes [] p) refl
way_at false true bytes p q = Dash (same_bytes bytes (45 ∷ []) q) refl
way_at false false bytes p q = Bytes (not_bytes bytes [] refl p) (not_bytes bytes (45 ∷ []) refl q) refl

pub way : (bytes : List ℕ) → Way bytes (escaped bytes)
way bytes = way_at (bytes_eq bytes []) (bytes_eq bytes (45 ∷ [])) bytes refl refl

ways : (xs ys t u : List ℕ) → AreBytes xs → AreBytes ys → t ≡ u → Way xs t → Way ys u → xs ≡ ys
ways xs ys t u p q h (Nothing a b) (Nothing c d) = a ∙ sym c
ways xs ys t u p q h (Nothing a b) (Dash c d) = let e : 0x5c ∷ 101 ∷ [] ≡ 0x5c ∷ 120 ∷ 50 ∷ 100 ∷ [] = sym b ∙ h ∙ d in absurd (differ 101 120 [] (50 ∷ 100 ∷ []) e refl)
ways xs ys t u p q h (Nothing a b) (Bytes c k d) = absurd (flat_not_sign ys [] (sym d ∙ sym h ∙ b))
ways xs ys t u p q h (Dash a b) (Nothing c d) = let e : 0x5c ∷ 101 ∷ [] ≡ 0x5c ∷ 120 ∷ 50 ∷ 100 ∷ [] = sym d ∙ sym h ∙ b in absurd (differ 101 120 [] (50 ∷ 100 ∷ []) e refl)
ways xs ys t u p q h (Dash a b) (Dash c d) = a ∙ sym c
ways xs ys t u p q h (Dash a b) (Bytes c k d) = absurd (flat_not_dash ys [] q (sym d ∙ sym h ∙ b))
ways xs ys t u p q h (Bytes a k b) (Nothing c d) = absurd (flat_not_sign xs [] (sym b ∙ h ∙ d))
ways xs ys t u p q h (Bytes a k b) (Dash c d) = absurd (flat_not_dash xs [] p (sym b ∙ h ∙ d))
ways xs ys t u p q h (Bytes a k b) (Bytes c m d) = flat_same xs ys p q (sym b ∙ h ∙ d)

pub told : (xs ys : List ℕ) → AreBytes xs → AreBytes ys → escaped xs ≡ escaped ys → xs ≡ ys
told xs ys p q h = ways xs ys (escaped xs) (escaped ys) p q h (way xs) (way ys)

four_printed : (a b c d : ℕ) → IsPrinted a → IsPrinted b → IsPrinted c → IsPrinted d → All IsPrinted (a ∷ b ∷ c ∷ d ∷ [])
four_printed a b c d h i j k = All-cons IsPrinted a (b ∷ c ∷ d ∷ []) h (All-cons IsPrinted b (c ∷ d ∷ []) i (All-cons IsPrinted c (d ∷ []) j (All-cons IsPrinted d [] k (All-nil IsPrinted))))

byte_printed : (a : Bool) (x : ℕ) → x ≤ 255 → is_plain x ≡ a → All IsPrinted (cond a (x ∷ []) (hidden x))
byte_printed true x h p = let w = plain_range x p in All-cons IsPrinted x [] (w.0, w.1) (All-nil IsPrinted)
byte_printed false x h p = four_printed 0x5c 120 (hex_digit (x / 16)) (hex_digit (x % 16)) (omega arith, omega arith) (omega arith, omega arith) (digit_range (nat_lt (x / 16) 10) (x / 16) refl (omega arith)) (digit_range (nat_lt (x % 16) 10) (x % 16) refl (omega arith))

flat_printed : (xs : List ℕ) → AreBytes xs → All IsPrinted (flat_map escaped_byte xs)
flat_printed [] p = All-nil IsPrinted
flat_printed (x ∷ xs) p = All-append IsPrinted (escaped_byte x) (flat_map escaped_byte xs) (byte_printed (is_plain x) x (All-head (λ c. c ≤ 255) x xs p) refl) (flat_printed xs (All-tail (λ c. c ≤ 255) x xs p))

flat_some : (xs : List ℕ) → (xs ≡ [] → ⊥) → flat_map escaped_byte xs ≡ [] → ⊥
flat_some [] n h = n refl
flat_some (x ∷ xs) n h = byte_some (is_plain x) x (flat_map escaped_byte xs) h

-- only the text `-` is written as `-`, byte for byte
dash_only : (a : Bool) (x : ℕ) (r : List ℕ) → cond a (x ∷ []) (hidden x) ++ r ≡ 45 ∷ [] → (x ≡ 45) × (r ≡ [])
dash_only true x r h = (cc, cc)
dash_only false x r h = cc

rest_empty : (xs : List ℕ) → flat_map escaped_byte xs ≡ [] → xs ≡ []
rest_empty [] h = refl
rest_empty (x ∷ xs) h = absurd (byte_some (is_plain x) x (flat_map escaped_byte xs) h)

flat_named : (xs : List ℕ) → (xs ≡ 45 ∷ [] → ⊥) → flat_map escaped_byte xs ≡ 45 ∷ [] → ⊥
flat_named [] n h = cc
flat_named (x ∷ xs) n h =
    let w = dash_only (is_plain x) x (flat_map escaped_byte xs) h in
    n (ap (λ c. c ∷ xs) w.0 ∙ ap (λ cs. 45 ∷ cs) (rest_empty xs w.1))

field_at : (bytes text : List ℕ) → AreBytes bytes → Way bytes text → IsField text
field_at bytes text p (Nothing a b) = subst (λ (t : List ℕ). IsField t) (sym b) (record {
  some = λ h. cc;
  printed = All-cons IsPrinted 0x5c (101 ∷ []) (omega arith, omega arith) (All-cons IsPrinted 101 [] (omega arith, omega arith) (All-nil IsPrinted));
  named = λ h. cc;
})
field_at bytes text p (Dash a b) = subst (λ (t : List ℕ). IsField t) (sym b) (record {
  some = λ h. cc;
  printed = four_printed 0x5c 120 50 100 (omega arith, omega arith) (omega arith, omega arith) (omega arith, omega arith) (omega arith, omega arith);
  named = λ h. cc;
})
field_at bytes text p (Bytes a k b) = subst (λ (t : List ℕ). IsField t) (sym b) (record { some = flat_some bytes a; printed = flat_printed bytes p; named = flat_named bytes k })

pub is_field : (bytes : List ℕ) → AreBytes bytes → IsField (escaped bytes)
is_field bytes p = field_at bytes (escaped bytes) p (way bytes)
