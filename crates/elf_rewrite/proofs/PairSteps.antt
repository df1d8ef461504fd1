-- One table more that is looked at beside those above it
use Rattle.std.proofs.Common.{◌≡◌, ℕ, suc, ◌+◌, ◌-◌, ◌≤◌, Bool, true, false, cond, List, [], ◌∷◌, ◌++◌, Some, None, map, refl, sym, ap, ◌∙◌, arith, append_assoc}
use Rattle.std.specs.List.{find, flat_map, range_with_len}
use Rattle.two_files.specs.Kept.{Range}
use Rattle.elf_rewrite.specs.Ranges.{beside, pairs_of, ranges_of}
use Rattle.elf_rewrite.specs.declared.numbering.TheConstants.{SECTIONS}

-- the pairs from a table on
abbrev pub pairs_from : ℕ → List (ℕ × ℕ)
pairs_from m = flat_map (λ k. pairs_of k) (range_with_len m (SECTIONS + 1 - m))

found_in : (p : ℕ × ℕ → Bool) (m n : ℕ) (ns : List ℕ) (rest : List (ℕ × ℕ)) → find (λ k. p (m, k)) ns ≡ Some n → find p (map (λ k. (m, k)) ns ++ rest) ≡ Some (m, n)
found_in p m n [] rest e = absurd (cc)
found_in p m n (k ∷ ns) rest e = go (p (m, k)) e (found_in p m n ns rest)
  where
    go : (b : Bool) → cond b (Some k) (find (λ k. p (m, k)) ns) ≡ Some n → (find (λ k. p (m, k)) ns ≡ Some n → find p (map (λ k. (m, k)) ns ++ rest) ≡ Some (m, n)) → cond b (Some (m, k)) (find p (map (λ k. (m, k)) ns ++ rest)) ≡ Some (m, n)
    go true e on = let same : k ≡ n = cc in rw same refl
    go false e on = on e

not_in : (p : ℕ × ℕ → Bool) (m : ℕ) (ns : List ℕ) (rest : List (ℕ × ℕ)) → find (λ k. p (m, k)) ns ≡ None → find p (map (λ k. (m, k)) ns ++ rest) ≡ find p rest
not_in p m [] rest e = refl
not_in p m (k ∷ ns) rest e = go (p (m, k)) e (not_in p m ns rest)
  where
    go : (b : Bool) → cond b (Some k) (find (λ k. p (m, k)) ns) ≡ None → (find (λ k. p (m, k)) ns ≡ None → find p (map (λ k. (m, k)) ns ++ rest) ≡ find p rest) → cond b (Some (m, k)) (find p (map (λ k. (m, k)) ns ++ rest)) ≡ find p rest
    go true e on = absurd (cc)
    go false e on = on e

next_pairs : (m : ℕ) → m ≤ SECTIONS → pairs_from m ≡ pairs_of m ++ pairs_from (m + 1)
next_pairs m h =
    let more : SECTIONS + 1 - m ≡ suc (SECTIONS + 1 - (m + 1)) = omega arith in
    ap (λ n. flat_map (λ k. pairs_of k) (range_with_len m n)) more

pub pair_found : (p : ℕ × ℕ → Bool) (m n : ℕ) → m ≤ SECTIONS → find (λ k. p (m, k)) (beside m) ≡ Some n → find p (pairs_from m) ≡ Some (m, n)
pair_found p m n h e = ap (find p) (next_pairs m h) ∙ found_in p m n (beside m) (pairs_from (m + 1)) e

pub no_pair : (p : ℕ × ℕ → Bool) (m : ℕ) → m ≤ SECTIONS → find (λ k. p (m, k)) (beside m) ≡ None → find p (pairs_from m) ≡ find p (pairs_from (m + 1))
no_pair p m h e = ap (find p) (next_pairs m h) ∙ not_in p m (beside m) (pairs_from (m + 1)) e

-- the tables so far with one more, and those that are left
pub tables_step : (b : List ℕ) (n : ℕ) (ts after whole : List (List Range)) (r : List Range) → n ≤ SECTIONS → r ≡ ranges_of b n → after ≡ ts ++ r ∷ [] → ts ++ map (λ k. ranges_of b k) (range_with_len n (SECTIONS + 1 - n)) ≡ whole → after ++ map (λ k. ranges_of b k) (range_with_len (n + 1) (SECTIONS + 1 - (n + 1))) ≡ whole
tables_step b n ts after whole r h e added inv =
    let more : SECTIONS + 1 - n ≡ suc (SECTIONS + 1 - (n + 1)) = omega arith in
    let rest = map (λ k. ranges_of b k) (range_with_len (n + 1) (SECTIONS + 1 - (n + 1))) in
    let next : map (λ k. ranges_of b k) (range_with_len n (SECTIONS + 1 - n)) ≡ ranges_of b n ∷ rest = ap (λ k. map (λ k. ranges_of b k) (range_with_len n k)) more in
    rw (added, e) (append_assoc ts (ranges_of b n ∷ []) rest ∙ (ap (λ l. ts ++ l) (sym next) ∙ inv))
