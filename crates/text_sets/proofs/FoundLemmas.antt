-- What is found in a list, and whether it is there.
use Rattle.std.proofs.Common.{◌≡◌, ◌∙◌, sym, ap, refl, ℕ, ◌<◌, List, [], ◌∷◌, Bool, true, false, cond, ◌||◌, Option, Some, None, Bor, bytes_eq, length, slice_get, arith, nat_lt}
use Rattle.std.specs.Cmp.Lexicographic.{bytes_decides}
use Rattle.std.specs.List.{find, list_any, position, prefix_len}
use Rattle.std.specs.Option.{option_copied}
use Rattle.std.specs.Prelude.{not}
use Rattle.std.specs.Slice.{IsGetResult}
use Rattle.std.proofs.lemmas.Bool.{both_ways, ltb-true}
use Rattle.std.proofs.lemmas.Option.{slice_get_past, slice_get_read}
use Rattle.load_model.proofs.TwoWorlds.{same_bytes}

within_by : (n len p : ℕ) (b : Bool) → nat_lt n len ≡ b → cond b (Some n) None ≡ Some p → p < len
within_by n len p true h e = let same : n ≡ p = cc in let less : n < len = ltb-true n len h in omega arith
within_by n len p false h e = cc

pub position_within : {X : Type 0} (t : X → Bool) (xs : List X) (p : ℕ) → position t xs ≡ Some p → p < length xs
position_within t xs p h = within_by (prefix_len (λ x. not (t x)) xs) (length xs) p (nat_lt (prefix_len (λ x. not (t x)) xs) (length xs)) refl h

found_none : {X : Type 0} (t : X → Bool) (b : Bool) (x : X) (xs : List X) → (find t xs ≡ None → list_any t xs ≡ false) → t x ≡ b → cond b (Some x) (find t xs) ≡ None → list_any t (x ∷ xs) ≡ false
found_none t true x xs h e g = cc
found_none t false x xs h e g = ap (λ b. b || list_any t xs) e ∙ h g

pub none_any : {X : Type 0} (t : X → Bool) (xs : List X) → find t xs ≡ None → list_any t xs ≡ false
none_any t [] h = refl
none_any t (x ∷ xs) h = found_none t (t x) x xs (none_any t xs) refl h

found_passes : {X : Type 0} (t : X → Bool) (b : Bool) (x y : X) (xs : List X) → (find t xs ≡ Some y → t y ≡ true) → t x ≡ b → cond b (Some x) (find t xs) ≡ Some y → t y ≡ true
found_passes t true x y xs h e g = let same : x ≡ y = cc in ap t (sym same) ∙ e
found_passes t false x y xs h e g = h g

pub find_passes : {X : Type 0} (t : X → Bool) (xs : List X) (y : X) → find t xs ≡ Some y → t y ≡ true
find_passes t [] y h = cc
find_passes t (x ∷ xs) y h = found_passes t (t x) x y xs (find_passes t xs y) refl h

-- Equal bytes, the other way round.
unlike : (a b : List ℕ) → bytes_eq a b ≡ false → a ≡ b → ⊥
unlike a b h e = both_ways (bytes_eq a b) h ((bytes_decides a b).1 e)

bytes_back : (a b : List ℕ) (x y : Bool) → bytes_eq a b ≡ x → bytes_eq b a ≡ y → x ≡ y
bytes_back a b true true h g = refl
bytes_back a b false false h g = refl
bytes_back a b true false h g = absurd (unlike b a g (sym (same_bytes a b h)))
bytes_back a b false true h g = absurd (unlike a b h (sym (same_bytes b a g)))

pub bytes_eq-sym : (a b : List ℕ) → bytes_eq a b ≡ bytes_eq b a
bytes_eq-sym a b = bytes_back a b (bytes_eq a b) (bytes_eq b a) refl refl

-- What `get` gives, copied.
pub got : {X : Type 0} (xs : List X) (i : ℕ) (r : Option (Bor X)) → IsGetResult xs i i r → option_copied r ≡ slice_get xs i
got xs i None h = sym (slice_get_past xs i h.3)
got xs i (Some x) h = sym (slice_get_read xs (length xs) i x.now refl h.3.0 h.1)
