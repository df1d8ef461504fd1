-- Where the chains of a GNU hash table begin.
use Rattle.std.proofs.Common.{◌≡◌, ℕ, suc, ◌+◌, ◌-◌, ◌<◌, ◌≤◌, get_or-drop, Bool, true, false, cond, not, ◌==◌, ◌≢◌, ◌||◌, ◌&&◌, List, [], ◌∷◌, ◌++◌, length, get_or, take, drop, refl, sym, ◌∙◌, arith, length-drop, length-append}
use Rattle.std.specs.Prelude.{nat_lt, nat_le, slice_index}
use Rattle.std.specs.List.{list_any}
use Rattle.std.proofs.Math.ListN.{get_or-append}
use Rattle.std.proofs.Math.Seq.{get_or-append_seam, take-suc}
use Rattle.std.proofs.lemmas.Bool.Decides.{nat_tests}
use Rattle.std.proofs.lemmas.List.Folds.{list_any-append}
use Rattle.load_model.specs.GnuTable.{is_in_run, is_last}
use Rattle.sym_tables.specs.Runs.{AreStarts, has_end_between}

pub between_none : (words : List ℕ) (b k : ℕ) → k ≤ b → has_end_between words b k ≡ false
unfolding has_end_between
between_none words b k h = let none : k - b ≡ 0 = omega arith in rw none refl

pub between_more : (words : List ℕ) (b k : ℕ) → b ≤ k → k < length words → has_end_between words b (k + 1) ≡ (has_end_between words b k || is_last (slice_index words k))
unfolding has_end_between
between_more words b k h l =
    let more : k + 1 - b ≡ suc (k - b) = omega arith in
    let within : k - b < length (drop b words) = omega (arith, length-drop b words) in
    let place : b + (k - b) ≡ k = omega arith in
    rw (more, take-suc (drop b words) (k - b) 0 within, list_any-append is_last (take (k - b) (drop b words)) (get_or (drop b words) (k - b) 0 ∷ []), get_or-drop, place) (one (list_any is_last (take (k - b) (drop b words))) (is_last (slice_index words k)))
  where
    one : (a b : Bool) → (a || (b || false)) ≡ (a || b)
    one true b = refl
    one false true = refl
    one false false = refl

-- the places of the first k words, and that of the next
pub record AreStartsTo (k start : ℕ) (starts words : List ℕ) : Type 0 where
  pub count : length starts ≡ k
  pub low : start ≤ k
  pub each : (j b : ℕ) → j < k → b ≤ j → has_end_between words b j ≡ nat_lt b (slice_index starts j)
  pub next : (b : ℕ) → b ≤ k → has_end_between words b k ≡ nat_lt b start

pub starts_none : (words : List ℕ) → AreStartsTo 0 0 [] words
starts_none words = record {
  count = refl;
  low = omega arith;
  each = λ j b h l. absurd (omega arith);
  next = λ b l. between_none words b 0 (omega arith) ∙ sym (let no : nat_lt b 0 ≡ false = grind (arith, nat_tests) in no);
}

pub starts_all : (k start : ℕ) (starts words : List ℕ) → length words ≤ k → k ≤ length words → AreStartsTo k start starts words → AreStarts starts words
starts_all k start starts words h l a = record {
  same = omega (arith, a.count);
  each = λ j b i m. a.each j b (omega arith) m;
}

start_after : (words : List ℕ) (k start b : ℕ) (last : Bool) → is_last (slice_index words k) ≡ last → b ≤ k → start ≤ k → k < length words → has_end_between words b k ≡ nat_lt b start → has_end_between words b (k + 1) ≡ nat_lt b (cond last (k + 1) start)
start_after words k start b true e h l m before =
    let yes : nat_lt b (k + 1) ≡ true = grind (arith, nat_tests) in
    rw (between_more words b k h m, e, yes) (always (has_end_between words b k))
  where
    always : (a : Bool) → (a || true) ≡ true
    always true = refl
    always false = refl
start_after words k start b false e h l m before = rw (between_more words b k h m, e) (same (has_end_between words b k) before)
  where
    same : (a : Bool) → a ≡ nat_lt b start → (a || false) ≡ nat_lt b start
    same true e = e
    same false e = e

start_here : (k start : ℕ) (last : Bool) → start ≤ k → nat_lt (k + 1) (cond last (k + 1) start) ≡ false
start_here k start true l = grind (arith, nat_tests)
start_here k start false l = grind (arith, nat_tests)

low_after : (k start : ℕ) (last : Bool) → start ≤ k → cond last (k + 1) start ≤ k + 1
low_after k start true l = omega arith
low_after k start false l = omega arith

pub starts_more : (k start : ℕ) (starts words : List ℕ) → k < length words → AreStartsTo k start starts words → AreStartsTo (k + 1) (cond (is_last (slice_index words k)) (k + 1) start) (starts ++ start ∷ []) words
starts_more k start starts words l a = record {
  count = omega (arith, length-append starts (start ∷ []), a.count);
  low = low_after k start (is_last (slice_index words k)) a.low;
  each = λ j b h m. place j b h m (nat_lt j k) refl;
  next = λ b m. behind b m (nat_le b k) refl;
}
  where
    place : (j b : ℕ) → j < k + 1 → b ≤ j → (c : Bool) → nat_lt j k ≡ c → has_end_between words b j ≡ nat_lt b (slice_index (starts ++ start ∷ []) j)
    place j b h m true e =
        let before : j < length starts = grind (arith, nat_tests, a.count) in
        rw (get_or-append starts (start ∷ []) 0 j before) (a.each j b (grind (arith, nat_tests)) m)
    place j b h m false e =
        let here : j ≡ k = grind (arith, nat_tests) in
        let at : length starts ≡ j = omega (arith, a.count) in
        rw (← at, get_or-append_seam starts start [] 0, at) (rw here (a.next b (omega arith)))

    behind : (b : ℕ) → b ≤ k + 1 → (c : Bool) → nat_le b k ≡ c → has_end_between words b (k + 1) ≡ nat_lt b (cond (is_last (slice_index words k)) (k + 1) start)
    behind b m true e =
        let within : b ≤ k = grind (arith, nat_tests) in
        start_after words k start b (is_last (slice_index words k)) refl within a.low l (a.next b within)
    behind b m false e =
        let here : b ≡ k + 1 = grind (arith, nat_tests) in
        rw here (between_none words (k + 1) (k + 1) (omega arith) ∙ sym (start_here k start (is_last (slice_index words k)) a.low))

-- a symbol in the chain of another
pub run_is : (offset first i : ℕ) (starts words : List ℕ) → AreStarts starts words → first ≢ 0 → offset ≤ first → first ≤ i → is_in_run offset words first i ≡ (nat_lt (i - offset) (length starts) && nat_le (slice_index starts (i - offset)) (first - offset))
unfolding is_in_run has_end_between
run_is offset first i starts words a h l m =
    let some : (first == 0) ≡ false = grind (arith, nat_tests) in
    let above : nat_le offset first ≡ true = grind (arith, nat_tests) in
    let behind : nat_le first i ≡ true = grind (arith, nat_tests) in
    let steps : i - first ≡ i - offset - (first - offset) = omega arith in
    rw (some, above, behind, steps) (go (nat_lt i (offset + length words)) refl)
  where
    turned : (b s : ℕ) → not (nat_lt b s) ≡ nat_le s b
    turned b s = grind (arith, nat_tests)

    go : (c : Bool) → nat_lt i (offset + length words) ≡ c → (c && not (list_any is_last (take (i - offset - (first - offset)) (drop (first - offset) words)))) ≡ (nat_lt (i - offset) (length starts) && nat_le (slice_index starts (i - offset)) (first - offset))
    go true e =
        let n : i - offset < length words = grind (arith, nat_tests) in
        let within : nat_lt (i - offset) (length starts) ≡ true = grind (arith, nat_tests, a.same) in
        let ends : list_any is_last (take (i - offset - (first - offset)) (drop (first - offset) words)) ≡ nat_lt (first - offset) (slice_index starts (i - offset)) = a.each (i - offset) (first - offset) n (omega arith) in
        rw (within, ends) (turned (first - offset) (slice_index starts (i - offset)))
    go false e =
        let past : nat_lt (i - offset) (length starts) ≡ false = grind (arith, nat_tests, a.same) in
        rw past refl
