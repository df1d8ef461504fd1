-- Where the entries of a dynamic table end.
use Rattle.std.proofs.Common.{◌≡◌, ℕ, Bool, true, false, cond, List, [], ◌∷◌, Some, None, length, take, refl, ap, arith}
use Rattle.std.specs.Prelude.{nat_lt, position}
use Rattle.std.specs.List.{before_first, list_any, position_or_len}
use Rattle.std.proofs.lemmas.Bool.Decides.{nat_tests}
use Rattle.byte_view.specs.Dynamic.{is_end}
use Rattle.byte_view.specs.declared.dynamic.Entry.{Entry}
use Rattle.dyn_table.proofs.StringTable.{place_is}

-- a place of an element is below the length exactly where one passes
passes_below : (xs : List Entry) → list_any is_end xs ≡ nat_lt (position_or_len is_end xs) (length xs)
passes_below [] = refl
passes_below (x ∷ xs) = grind (arith, nat_tests, passes_below xs)

pub end_is : (xs : List Entry) (i : ℕ) → position is_end xs ≡ Some i → (take i xs ≡ before_first is_end xs) × (list_any is_end xs ≡ true)
end_is xs i e = (ap (λ n. take n xs) place, rw (passes_below xs) (go (nat_lt (position_or_len is_end xs) (length xs)) e))
  where
    place : i ≡ position_or_len is_end xs
    place = let p : position_or_len is_end xs ≡ i = place_is is_end xs i e in cc

    go : (b : Bool) → cond b (Some (position_or_len is_end xs)) None ≡ Some i → b ≡ true
    go true e = refl
    go false e = absurd (cc)

pub no_end_is : (xs : List Entry) → position is_end xs ≡ None → list_any is_end xs ≡ false
no_end_is xs e = rw (passes_below xs) (go (nat_lt (position_or_len is_end xs) (length xs)) e)
  where
    go : (b : Bool) → cond b (Some (position_or_len is_end xs)) None ≡ None → b ≡ false
    go true e = absurd (cc)
    go false e = refl
