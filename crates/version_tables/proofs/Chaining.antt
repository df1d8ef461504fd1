-- The places of records that follow one another.
use Rattle.std.proofs.Common.{◌≡◌, ℕ, zero, suc, ◌+◌, ◌<◌, List, get_or, map, refl, ap, sym, ◌∙◌, arith, add-one}
use Rattle.std.specs.List.{range_with_len, sum_by}
use Rattle.std.proofs.lemmas.Grind.{same_number_lists}
use Rattle.std.proofs.lemmas.List.FromFn.{get_or-map-range_with_len, length-map-range_with_len, sum_by-map-range_with_len_more}
use Rattle.load_model.specs.VersionTables.{record_place}
use Rattle.version_tables.specs.Chained.{AreChained}
use Rattle.version_tables.proofs.Places.{next_place}

first_place : (next : ℕ → ℕ) (first : ℕ) → record_place next first 0 ≡ first
unfolding record_place
first_place next first = refl

pub are_chained : (next : ℕ → ℕ) (first n : ℕ) → AreChained next first n (map (record_place next first) (range_with_len 0 n))
are_chained next first n =
    let at : (k : ℕ) → k < n → get_or (map (record_place next first) (range_with_len 0 n)) k 0 ≡ record_place next first k = λ k h. get_or-map-range_with_len (record_place next first) 0 n k k 0 h (omega arith) in
    record {
      many = length-map-range_with_len (record_place next first) 0 n;
      begins = λ h. at 0 h ∙ first_place next first;
      follows = λ k h.
          let before : get_or (map (record_place next first) (range_with_len 0 n)) k 0 ≡ record_place next first k = at k (omega arith) in
          at (k + 1) h ∙ (next_place next first k ∙ sym (ap (λ (x : ℕ). x + next x) before));
    }

chained_place : (next : ℕ → ℕ) (first n : ℕ) (places : List ℕ) → AreChained next first n places → (k : ℕ) → k < n → get_or places k 0 ≡ record_place next first k
unfolding record_place
chained_place next first n places c zero h = c.begins h
chained_place next first n places c (suc k) h =
    let before : get_or places k 0 ≡ record_place next first k = chained_place next first n places c k (omega arith) in
    let step : get_or places (k + 1) 0 ≡ get_or places k 0 + next (get_or places k 0) = c.follows k (omega arith) in
    let here : get_or places (suc k) 0 ≡ get_or places k 0 + next (get_or places k 0) = rw add-one at step in
    here ∙ ap (λ (x : ℕ). x + next x) before

pub only_chained : (next : ℕ → ℕ) (first n : ℕ) (places : List ℕ) → AreChained next first n places → places ≡ map (record_place next first) (range_with_len 0 n)
only_chained next first n places c =
    same_number_lists places (map (record_place next first) (range_with_len 0 n)) (c.many ∙ sym (length-map-range_with_len (record_place next first) 0 n))
    (λ k h.
    let low : k < n = omega (arith, c.many) in
    chained_place next first n places c k low ∙ sym (get_or-map-range_with_len (record_place next first) 0 n k k 0 low (omega arith)))

pub at_sums : (next : ℕ → ℕ) (first k : ℕ) → record_place next first k ≡ first + sum_by next (map (record_place next first) (range_with_len 0 k))
unfolding record_place
at_sums next first zero = omega arith
at_sums next first (suc k) =
    let before : record_place next first k ≡ first + sum_by next (map (record_place next first) (range_with_len 0 k)) = at_sums next first k in
    let more : sum_by next (map (record_place next first) (range_with_len 0 (k + 1))) ≡ sum_by next (map (record_place next first) (range_with_len 0 k)) + next (record_place next first k) = sum_by-map-range_with_len_more next (record_place next first) 0 k k (omega arith) in
    let here : sum_by next (map (record_place next first) (range_with_len 0 (suc k))) ≡ sum_by next (map (record_place next first) (range_with_len 0 k)) + next (record_place next first k) = rw add-one at more in
    omega (arith, before, here)
