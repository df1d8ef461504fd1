-- What is no escaped form.
use Rattle.std.proofs.Common.{◌≡◌, ◌∙◌, sym, ap, refl, ℕ, ◌≤◌, ◌<◌, List, [], ◌∷◌, ◌++◌, length, arith, append_assoc, true, false, cond, Bool, ◌/◌, ◌%◌, nat_le, ◌==◌, ◌&&◌, not}
use Rattle.std.specs.List.{flat_map, list_all}
use Rattle.std.proofs.lemmas.Bool.{and_parts, leb-true}
use Rattle.std.specs.Str.{bytes_eq}
use Rattle.std.proofs.lemmas.List.Elements.{All-cons, All-head, All-nil, All-tail}
use Rattle.load_model.specs.Escaping.{is_plain, escaped_byte, escaped, AreBytes, hex_digit}
use Rattle.load_model.proofs.Escaped.{byte_same, byte_some, way, Way, same_bytes}
use Rattle.load_model.proofs.Escaped.Way.{Nothing, Dash, Bytes}

-- where the bytes so far are written and no byte's form follows, no bytes are written
pub none_so : (out bytes rest : List ℕ) → AreBytes out → AreBytes bytes → flat_map escaped_byte out ++ rest ≡ flat_map escaped_byte bytes → 0 < length rest → ((byte : ℕ) (more : List ℕ) → byte ≤ 255 → rest ≡ escaped_byte byte ++ more → ⊥) → ⊥
none_so [] [] [] p q e l halt = absurd (omega arith)
none_so [] [] (r ∷ rest) p q e l halt = cc
none_so [] (b ∷ bs) rest p q e l halt = halt b (flat_map escaped_byte bs) (All-head (λ c. c ≤ 255) b bs q) e
none_so (o ∷ os) [] rest p q e l halt = byte_some (is_plain o) o (flat_map escaped_byte os ++ rest) (sym (append_assoc (escaped_byte o) (flat_map escaped_byte os) rest) ∙ e)
none_so (o ∷ os) (b ∷ bs) rest p q e l halt =
    let w = byte_same (is_plain o) (is_plain b) o b (flat_map escaped_byte os ++ rest) (flat_map escaped_byte bs) refl refl (All-head (λ c. c ≤ 255) o os p) (All-head (λ c. c ≤ 255) b bs q) (sym (append_assoc (escaped_byte o) (flat_map escaped_byte os) rest) ∙ e) in
    none_so os bs rest (All-tail (λ c. c ≤ 255) o os p) (All-tail (λ c. c ≤ 255) b bs q) w.1 l halt

-- by the way of writing
no_way : (out bytes rest field text : List ℕ) → AreBytes out → AreBytes bytes → field ≡ flat_map escaped_byte out ++ rest → field ≡ text → 0 < length rest → (field ≡ 0x5c ∷ 101 ∷ [] → ⊥) → (field ≡ 0x5c ∷ 120 ∷ 50 ∷ 100 ∷ [] → ⊥) → ((byte : ℕ) (more : List ℕ) → byte ≤ 255 → rest ≡ escaped_byte byte ++ more → ⊥) → Way bytes text → ⊥
no_way out bytes rest field text p q e f l sign dash halt (Nothing a b) = sign (f ∙ b)
no_way out bytes rest field text p q e f l sign dash halt (Dash a b) = dash (f ∙ b)
no_way out bytes rest field text p q e f l sign dash halt (Bytes a k b) = none_so out bytes rest p q (sym e ∙ (f ∙ b)) l halt

-- a field that is not one of the two signs is written byte by byte
pub no_bytes : (out bytes rest field : List ℕ) → AreBytes out → AreBytes bytes → field ≡ flat_map escaped_byte out ++ rest → field ≡ escaped bytes → 0 < length rest → (field ≡ 0x5c ∷ 101 ∷ [] → ⊥) → (field ≡ 0x5c ∷ 120 ∷ 50 ∷ 100 ∷ [] → ⊥) → ((byte : ℕ) (more : List ℕ) → byte ≤ 255 → rest ≡ escaped_byte byte ++ more → ⊥) → ⊥
no_bytes out bytes rest field p q e f l sign dash halt = no_way out bytes rest field (escaped bytes) p q e f l sign dash halt (way bytes)

neither : (a b : Bool) (bytes text : List ℕ) → a ≡ false → b ≡ false → cond a (0x5c ∷ 101 ∷ []) (cond b (0x5c ∷ 120 ∷ 50 ∷ 100 ∷ []) text) ≡ text
neither true b bytes text p q = cc
neither false true bytes text p q = cc
neither false false bytes text p q = refl

is_false : (b : Bool) → (b ≡ true → ⊥) → b ≡ false
is_false true h = absurd (h refl)
is_false false h = refl

-- what is written byte by byte, neither empty nor `-`, is escaped so
pub by_bytes : (out field : List ℕ) → field ≡ flat_map escaped_byte out → (field ≡ [] → ⊥) → (field ≡ 45 ∷ [] → ⊥) → field ≡ escaped out
by_bytes out field e some dash =
    e ∙ sym (neither (bytes_eq out []) (bytes_eq out (45 ∷ [])) out (flat_map escaped_byte out)
    (is_false (bytes_eq out []) (λ h. some (e ∙ ap (flat_map escaped_byte) (same_bytes out [] h))))
    (is_false (bytes_eq out (45 ∷ [])) (λ h. dash (e ∙ ap (flat_map escaped_byte) (same_bytes out (45 ∷ []) h)))))

pub empty : (xs : List ℕ) → length xs ≡ 0 → xs ≡ []
empty [] h = refl
empty (x ∷ xs) h = absurd (omega arith)

-- plain bytes are written as they are
plain_written : (bytes : List ℕ) → list_all is_plain bytes ≡ true → flat_map escaped_byte bytes ≡ bytes
plain_written [] h = refl
plain_written (b ∷ bytes) h =
    let w = and_parts (is_plain b) (list_all is_plain bytes) h in
    ap (λ t. cond t (b ∷ []) (0x5c ∷ 120 ∷ hex_digit (b / 16) ∷ hex_digit (b % 16) ∷ []) ++ flat_map escaped_byte bytes) w.0 ∙ ap (λ bs. b ∷ bs) (plain_written bytes w.1)

pub plain_escaped : (field : List ℕ) → list_all is_plain field ≡ true → (field ≡ [] → ⊥) → (field ≡ 45 ∷ [] → ⊥) → field ≡ escaped field
plain_escaped field h some dash = by_bytes field field (sym (plain_written field h)) some dash

pub plain_bytes : (field : List ℕ) → list_all is_plain field ≡ true → AreBytes field
plain_bytes [] h = All-nil (λ c. c ≤ 255)
plain_bytes (b ∷ field) h =
    let w = and_parts (is_plain b) (list_all is_plain field) h in
    let q = and_parts (nat_le 0x21 b) (nat_le b 0x7e && not (b == 0x5c)) w.0 in
    let p = and_parts (nat_le b 0x7e) (not (b == 0x5c)) q.1 in
    let small = leb-true b 0x7e p.0 in
    All-cons (λ c. c ≤ 255) b field (omega arith) (plain_bytes field w.1)
