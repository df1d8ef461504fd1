-- A text of ASCII bytes is UTF-8, by a test that computes.
use Rattle.std.proofs.Common.{◌≡◌, ◌∷◌, [], ℕ, zero, suc, List, true, ◌<◌, nat_lt, arith}
use Rattle.std.specs.List.{list_all, slice_index}
use Rattle.std.specs.Str.{is_utf8}
use Rattle.std.proofs.lemmas.Bool.{and_parts, ltb-true}
use Rattle.std.proofs.lemmas.Str.{IsUtf8-from_ascii, is_utf8-from_IsUtf8}

ascii : (bs : List ℕ) → list_all (λ c. nat_lt c 128) bs ≡ true → (i : ℕ) → slice_index bs i < 128
ascii [] h i = omega arith
ascii (c ∷ bs) h zero = ltb-true c 128 (and_parts (nat_lt c 128) (list_all (λ c. nat_lt c 128) bs) h).0
ascii (c ∷ bs) h (suc i) = ascii bs (and_parts (nat_lt c 128) (list_all (λ c. nat_lt c 128) bs) h).1 i

pub text : (bs : List ℕ) → list_all (λ c. nat_lt c 128) bs ≡ true → is_utf8 bs ≡ true
text bs h = is_utf8-from_IsUtf8 bs (IsUtf8-from_ascii bs (ascii bs h))
