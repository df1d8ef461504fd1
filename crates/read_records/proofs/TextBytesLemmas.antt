-- Texts, and what a file of bytes has in it, are bytes.
use Rattle.std.proofs.Common.{◌≡◌, sym, refl, ℕ, ◌==◌, ◌+◌, ◌/◌, ◌%◌, ◌<◌, ◌≤◌, List, [], ◌∷◌, Bool, true, false, cond, Option, Some, None, drop, length, map, nat_lt, slice_get, arith, inl, inr}
use Rattle.std.specs.Prelude.{IsUtf8}
use Rattle.std.specs.List.{before_first, filter, range_with_len}
use Rattle.std.specs.Option.{option_and_then, unwrap_or}
use Rattle.std.proofs.Math.Utf8.{encode, encodes, scalar, scalars, scalar_cases}
use Rattle.std.proofs.lemmas.Bool.{and_parts, ltb-true}
use Rattle.std.proofs.lemmas.List.Elements.{All-append, All-cons, All-drop, All-nil, All-same, All-take}
use Rattle.byte_view.specs.Dynamic.{dynamic_entries, string_at, strings_at, strings_of, strings_size}
use Rattle.byte_view.specs.Headers.{headers}
use Rattle.byte_view.specs.Memory.{byte_of, holds, memory_bytes, memory_in, the_only}
use Rattle.byte_view.specs.declared.segments.Segment.{Segment}
use Rattle.load_model.specs.Escaping.{AreBytes}
use Rattle.load_model.specs.VersionTables.{text_of}
use Rattle.load_requests.proofs.AskingPlaces.{all_at}

abbrev IsByte : ℕ → Type 0
IsByte c = c ≤ 255

-- ---- texts

scalar_low : (c : ℕ) → scalar c ≡ true → c < 1114112
scalar_low c h =
    elim (scalar_cases c h) [
      | inl low ↦ omega (arith, low)
      | inr high ↦ high.1
    ]

-- The bytes of a character (Unicode, UTF-8).
two_more : (c : ℕ) → AreBytes ((128 + (c / 64) % 64) ∷ (128 + c % 64) ∷ [])
two_more c =
    All-cons IsByte (128 + (c / 64) % 64) ((128 + c % 64) ∷ []) (omega arith)
    (All-cons IsByte (128 + c % 64) [] (omega arith) (All-nil IsByte))

encoded_by : (c : ℕ) (x y z : Bool) → c < 1114112 → nat_lt c 128 ≡ x → nat_lt c 2048 ≡ y → nat_lt c 65536 ≡ z → AreBytes (cond x (c ∷ []) (cond y ((192 + c / 64) ∷ (128 + c % 64) ∷ []) (cond z ((224 + c / 4096) ∷ (128 + (c / 64) % 64) ∷ (128 + c % 64) ∷ []) ((240 + c / 262144) ∷ (128 + (c / 4096) % 64) ∷ (128 + (c / 64) % 64) ∷ (128 + c % 64) ∷ []))))
encoded_by c true y z low ex ey ez =
    let small = ltb-true c 128 ex in
    All-cons IsByte c [] (omega (arith, small)) (All-nil IsByte)
encoded_by c false true z low ex ey ez =
    let small = ltb-true c 2048 ey in
    All-cons IsByte (192 + c / 64) ((128 + c % 64) ∷ []) (omega (arith, small))
    (All-cons IsByte (128 + c % 64) [] (omega arith) (All-nil IsByte))
encoded_by c false false true low ex ey ez =
    let small = ltb-true c 65536 ez in
    All-cons IsByte (224 + c / 4096) ((128 + (c / 64) % 64) ∷ (128 + c % 64) ∷ []) (omega (arith, small)) (two_more c)
encoded_by c false false false low ex ey ez =
    All-cons IsByte (240 + c / 262144) ((128 + (c / 4096) % 64) ∷ (128 + (c / 64) % 64) ∷ (128 + c % 64) ∷ []) (omega (arith, low))
    (All-cons IsByte (128 + (c / 4096) % 64) ((128 + (c / 64) % 64) ∷ (128 + c % 64) ∷ []) (omega arith) (two_more c))

encoded : (c : ℕ) → scalar c ≡ true → AreBytes (encode c)
unfolding encode
encoded c h = encoded_by c (nat_lt c 128) (nat_lt c 2048) (nat_lt c 65536) (scalar_low c h) refl refl refl

all_encoded : (cs : List ℕ) → scalars cs ≡ true → AreBytes (encodes cs)
all_encoded [] h = All-nil IsByte
all_encoded (c ∷ cs) h =
    let both = and_parts (scalar c) (scalars cs) h in
    All-append IsByte (encode c) (encodes cs) (encoded c both.0) (all_encoded cs both.1)

pub text_bytes : (text : List ℕ) → IsUtf8 text → AreBytes text
text_bytes text h = All-same IsByte text (encodes h.0) (sym h.1.1) (all_encoded h.0 h.1.0)

-- ---- what a file has in it

pub before_bytes : (p : ℕ → Bool) (xs : List ℕ) → AreBytes xs → AreBytes (before_first p xs)
before_bytes p xs h = All-take IsByte _ xs h

read_or_zero : (file : List ℕ) (o : Option ℕ) (k : ℕ) → AreBytes file → slice_get file k ≡ o → unwrap_or o 0 ≤ 255
read_or_zero file None k h e = omega arith
read_or_zero file (Some c) k h e = all_at IsByte file k c h e

byte_by : (file : List ℕ) (b : Bool) (k : ℕ) → AreBytes file → unwrap_or (cond b (slice_get file k) (Some 0)) 0 ≤ 255
byte_by file true k h = read_or_zero file (slice_get file k) k h refl
byte_by file false k h = omega arith

held_byte : (file : List ℕ) (addr : ℕ) (o : Option Segment) → AreBytes file → unwrap_or (option_and_then (byte_of file addr) o) 0 ≤ 255
held_byte file addr None h = omega arith
held_byte file addr (Some s) h = byte_by file (nat_lt addr (s.vaddr + s.filesz)) _ h

memory_byte : (file : List ℕ) (segments : List Segment) (addr : ℕ) → AreBytes file → unwrap_or (memory_in file segments addr) 0 ≤ 255
unfolding memory_in
memory_byte file segments addr h = held_byte file addr (the_only (filter (holds addr) segments)) h

all_made : (f : ℕ → ℕ) (xs : List ℕ) → ((x : ℕ) → f x ≤ 255) → AreBytes (map f xs)
all_made f [] each = All-nil IsByte
all_made f (x ∷ xs) each = All-cons IsByte (f x) (map f xs) (each x) (all_made f xs each)

memory_is_bytes : (file : List ℕ) (segments : List Segment) (addr len : ℕ) → AreBytes file → AreBytes (memory_bytes file segments addr len)
unfolding memory_bytes
memory_is_bytes file segments addr len h =
    all_made (λ i. unwrap_or (memory_in file segments (addr + i)) 0) (range_with_len 0 len) (λ i. memory_byte file segments (addr + i) h)

text_by : (strings : List ℕ) (at : ℕ) (b : Bool) → AreBytes strings → AreBytes (unwrap_or (cond b (Some (before_first (λ c. c == 0) (drop at strings))) None) [])
text_by strings at true h = before_bytes (λ c. c == 0) (drop at strings) (All-drop IsByte at strings h)
text_by strings at false h = All-nil IsByte

-- The text at a string place (System V gABI, String Table).
pub string_bytes : (file : List ℕ) (at : ℕ) → AreBytes file → AreBytes (text_of file at)
unfolding string_at strings_of
string_bytes file at h =
    let entries = dynamic_entries file in
    let strings = memory_bytes file (headers file) (strings_at entries) (strings_size entries) in
    text_by strings at (nat_lt at (length strings)) (memory_is_bytes file (headers file) (strings_at entries) (strings_size entries) h)
