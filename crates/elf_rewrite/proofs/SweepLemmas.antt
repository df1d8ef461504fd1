-- Ranges of which each begins behind the ends of those before it: no two of them share a place
use Rattle.std.proofs.Common.{◌≡◌, ℕ, zero, suc, ◌+◌, ◌-◌, ◌<◌, ◌≤◌, ◌==◌, ◌&&◌, ◌||◌, Bool, true, false, cond, List, [], ◌∷◌, ◌++◌, Some, None, length, max, refl, ap, sym, subst, ◌∙◌, arith, append-nil, append_assoc, drop, get_or, map}
use Rattle.std.specs.Prelude.{nat_le, slice_get, slice_index_or}
use Rattle.std.specs.List.{find, flat_map, list_all, list_any, range_with_len}
use Rattle.std.specs.List.Sorted.{IsPermutation}
use Rattle.std.proofs.lemmas.Bool.Decides.{nat_tests}
use Rattle.std.proofs.lemmas.List.Sorted.{sum_by-IsPermutation}
use Rattle.std.proofs.lemmas.List.Sums.{sum_by-append, sum_by-cons}
use Rattle.load_model.proofs.Places.{any_place}
use Rattle.two_files.specs.Kept.{Range, covers}
use Rattle.elf_rewrite.specs.Ranges.{NoneMeet, ascends, asked_ranges, first_overlap, first_pair, meets, need_ranges, overlaps, ranges_of, share, shares_within, ranges_of_table, tables, times_in}
use Rattle.elf_rewrite.specs.declared.numbering.TheConstants.{SECTIONS, VERNEED}
use Rattle.elf_rewrite.proofs.ApartLemmas.{all_pairs}
use Rattle.elf_rewrite.proofs.TextSteps.{at_index}

abbrev hit : ℕ → Range → ℕ
hit i r = cond (covers i r) 1 0

-- ranges that ascend
pub record LiesOnce (i low : ℕ) (xs : List Range) : Type 0 where
  pub below : i < low → times_in i xs ≡ 0
  pub once : times_in i xs ≤ 1

times_first : (i : ℕ) (r : Range) (more : List Range) → times_in i (r ∷ more) ≡ hit i r + times_in i more
times_first i r more = sum_by-cons (hit i) r more

ascending_once : (i low : ℕ) (xs : List Range) → ascends low xs ≡ true → LiesOnce i low xs
ascending_once i low [] h = record { below = λ l. refl; once = omega arith }
ascending_once i low (r ∷ more) h =
    go (covers i r) refl (nat_le low r.0 || nat_le r.1 r.0) refl h (λ g. ascending_once i (max low r.1) more g)
  where
    go : (c : Bool) → covers i r ≡ c → (a : Bool) → (nat_le low r.0 || nat_le r.1 r.0) ≡ a → (a && ascends (max low r.1) more) ≡ true → (ascends (max low r.1) more ≡ true → LiesOnce i (max low r.1) more) → LiesOnce i low (r ∷ more)
    go c k false a h on = absurd (cc)
    go true k true a h on =
        let rest = on h in
        let high : i < r.1 = grind (arith, nat_tests) in
        let from : low ≤ i = grind (arith, nat_tests) in
        let none : times_in i more ≡ 0 = rest.below (omega arith) in
        let one : hit i r ≡ 1 = rw k refl in
        record { below = λ l. absurd (omega arith); once = omega (arith, times_first i r more) }
    go false k true a h on =
        let rest = on h in
        let least : times_in i more ≤ 1 = rest.once in
        let nothing : hit i r ≡ 0 = rw k refl in
        record { below = λ l. let none : times_in i more ≡ 0 = rest.below (omega arith) in omega (arith, times_first i r more); once = omega (arith, times_first i r more) }

pub sorted_once : (xs ys : List Range) → IsPermutation xs ys → ascends 0 ys ≡ true → NoneMeet xs
sorted_once xs ys p h = record {
  once = λ i. let same = sum_by-IsPermutation (hit i) xs ys p in let least = (ascending_once i 0 ys h).once in omega arith;
}

-- a place in two ranges
counted : (i j : ℕ) (r : Range) (xs : List Range) → slice_get xs j ≡ Some r → covers i r ≡ true → 1 ≤ times_in i xs
counted i j r [] e h = absurd (cc)
counted i zero r (x ∷ xs) e h =
    let same : x ≡ r = cc in
    let one : hit i x ≡ 1 = rw (same, h) refl in
    omega (arith, times_first i x xs)
counted i (suc j) r (x ∷ xs) e h = let later = counted i j r xs e h in omega (arith, times_first i x xs)

meeting : (r s : Range) → meets r s ≡ true → (covers (max r.0 s.0) r ≡ true) × (covers (max r.0 s.0) s ≡ true)
meeting r s h = (grind (arith, nat_tests), grind (arith, nat_tests))

share_place : (rs ss : List Range) → share rs ss ≡ true → (i : ℕ) × (1 ≤ times_in i rs) × (1 ≤ times_in i ss)
share_place rs ss h =
    let first = any_place (λ r. list_any (λ s. meets r s) ss) rs h in
    let second = any_place (λ s. meets first.1 s) ss first.3 in
    let both = meeting first.1 second.1 second.3 in
    (max first.1.0 second.1.0, counted (max first.1.0 second.1.0) first.0 first.1 rs first.2 both.0, counted (max first.1.0 second.1.0) second.0 second.1 ss second.2 both.1)

within_place : (rs : List Range) → shares_within rs ≡ true → (i : ℕ) × (2 ≤ times_in i rs)
within_place [] h = absurd (cc)
within_place (r ∷ more) h = go (list_any (λ s. meets r s) more) refl h (within_place more)
  where
    go : (b : Bool) → list_any (λ s. meets r s) more ≡ b → (b || shares_within more) ≡ true → (shares_within more ≡ true → (i : ℕ) × (2 ≤ times_in i more)) → (i : ℕ) × (2 ≤ times_in i (r ∷ more))
    go true e h on =
        let there = any_place (λ s. meets r s) more e in
        let both = meeting r there.1 there.3 in
        let i : ℕ = max r.0 there.1.0 in
        let one : hit i r ≡ 1 = rw (both.0) refl in
        let later : 1 ≤ times_in i more = counted i there.0 there.1 more there.2 both.1 in
        (i, omega (arith, times_first i r more))
    go false e h on = let later = on h in (later.0, let least = later.1 in omega (arith, times_first later.0 r more))

-- tables among all
abbrev joined : List (List Range) → List Range
joined ts = flat_map (λ t. t) ts

times_joined : (i : ℕ) (t : List Range) (more : List (List Range)) → times_in i (joined (t ∷ more)) ≡ times_in i t + times_in i (joined more)
times_joined i t more = sum_by-append (hit i) t (joined more)

one_among : (i a : ℕ) (ts : List (List Range)) → times_in i (slice_index_or ts a []) ≤ times_in i (joined ts)
one_among i a [] = omega arith
one_among i zero (t ∷ more) = omega (arith, times_joined i t more)
one_among i (suc a) (t ∷ more) = omega (arith, times_joined i t more, one_among i a more)

two_among : (i a b : ℕ) (ts : List (List Range)) → (a == b) ≡ false → times_in i (slice_index_or ts a []) + times_in i (slice_index_or ts b []) ≤ times_in i (joined ts)
two_among i a b [] h = omega arith
two_among i zero zero (t ∷ more) h = absurd (cc)
two_among i zero (suc b) (t ∷ more) h = omega (arith, times_joined i t more, one_among i b more)
two_among i (suc a) zero (t ∷ more) h = omega (arith, times_joined i t more, one_among i a more)
two_among i (suc a) (suc b) (t ∷ more) h =
    let less : (a == b) ≡ false = grind (arith, nat_tests) in
    omega (arith, times_joined i t more, two_among i a b more less)

-- where no place lies in two of all ranges, no two tables share one
none_where : {X : Type 0} (t p : X → Bool) (xs : List X) → list_all t xs ≡ true → ((x : X) → t x ≡ true → p x ≡ false) → find p xs ≡ None
none_where t p [] h each = refl
none_where t p (x ∷ xs) h each = go (t x) refl h (λ g. none_where t p xs g each)
  where
    go : (a : Bool) → t x ≡ a → (a && list_all t xs) ≡ true → (list_all t xs ≡ true → find p xs ≡ None) → cond (p x) (Some x) (find p xs) ≡ None
    go false e h on = absurd (cc)
    go true e h on = let no : p x ≡ false = each x e in rw no (on h)

abbrev is_numbered : ℕ × ℕ → Bool
is_numbered p = nat_le 1 p.0 && nat_le 1 p.1

numbered : list_all is_numbered all_pairs ≡ true
numbered = refl

not_shared : (ts : List (List Range)) (m n : ℕ) → NoneMeet (joined ts) → is_numbered (m, n) ≡ true → (m == n) ≡ false → share (ranges_of_table ts m) (ranges_of_table ts n) ≡ false
not_shared ts m n none h e = go (share (ranges_of_table ts m) (ranges_of_table ts n)) refl
  where
    go : (s : Bool) → share (ranges_of_table ts m) (ranges_of_table ts n) ≡ s → share (ranges_of_table ts m) (ranges_of_table ts n) ≡ false
    go false t = t
    go true t = absurd (
        let there = share_place (ranges_of_table ts m) (ranges_of_table ts n) t in
        let other : (m - 1 == n - 1) ≡ false = grind (arith, nat_tests) in
        let both = two_among there.0 (m - 1) (n - 1) ts other in
        let once = none.once there.0 in
        let a = there.1 in
        let b = there.2 in
        omega arith
        )

none_within : (needs asked : List Range) (ts : List (List Range)) → NoneMeet (joined ts) → ranges_of_table ts VERNEED ≡ needs ++ asked → (shares_within needs || share needs asked) ≡ false
none_within needs asked ts none e = go (shares_within needs) refl (share needs asked) refl
  where
    all : (i : ℕ) → times_in i needs + times_in i asked ≤ 1
    all i =
        let sum : times_in i (needs ++ asked) ≡ times_in i needs + times_in i asked = sum_by-append (hit i) needs asked in
        let table : times_in i (ranges_of_table ts VERNEED) ≡ times_in i (needs ++ asked) = ap (λ l. times_in i l) e in
        let least = one_among i 7 ts in
        let once = none.once i in
        omega arith

    go : (a : Bool) → shares_within needs ≡ a → (b : Bool) → share needs asked ≡ b → (a || b) ≡ false
    go true h b k = absurd (let there = within_place needs h in let most = all there.0 in let two = there.1 in omega arith)
    go false h true k = absurd (let there = share_place needs asked k in let most = all there.0 in let one = there.1 in let other = there.2 in omega arith)
    go false h false k = refl

needs_table : (b : List ℕ) → ranges_of_table (tables b) VERNEED ≡ need_ranges b ++ asked_ranges b
unfolding ranges_of
needs_table b = refl

pub none_overlap : (b : List ℕ) → NoneMeet (joined (tables b)) → first_overlap b ≡ None
unfolding first_overlap first_pair
none_overlap b none =
    none_where is_numbered (λ p. overlaps (tables b) (need_ranges b) (asked_ranges b) p.0 p.1) all_pairs numbered (λ p h. one p.0 p.1 h)
  where
    one : (m n : ℕ) → is_numbered (m, n) ≡ true → overlaps (tables b) (need_ranges b) (asked_ranges b) m n ≡ false
    one m n h = go (m == n) refl (m == VERNEED)
      where
        go : (e : Bool) → (m == n) ≡ e → (v : Bool) → cond e (v && (shares_within (need_ranges b) || share (need_ranges b) (asked_ranges b))) (share (ranges_of_table (tables b) m) (ranges_of_table (tables b) n)) ≡ false
        go false e v = not_shared (tables b) m n none h e
        go true e false = refl
        go true e true = none_within (need_ranges b) (asked_ranges b) (tables b) none (needs_table b)

-- the ranges so far with those of one table more
pub joined_step : (ts : List (List Range)) (k : ℕ) (t : List Range) (all after whole : List Range) → k < length ts → t ≡ get_or ts k t → after ≡ all ++ t → all ++ joined (drop k ts) ≡ whole → after ++ joined (drop (k + 1) ts) ≡ whole
joined_step ts k t all after whole low is added before =
    rw added (append_assoc all t (joined (drop (k + 1) ts)) ∙ (ap (λ l. all ++ l) (sym (ap joined (at_index ts k t low is))) ∙ before))

none_left : (ts : List (List Range)) (k : ℕ) → length ts ≤ k → drop k ts ≡ []
none_left [] zero h = refl
none_left [] (suc k) h = refl
none_left (t ∷ ts) zero h = absurd (omega arith)
none_left (t ∷ ts) (suc k) h = none_left ts k (omega arith)

pub joined_once : (ts : List (List Range)) (k : ℕ) (all sorted slice : List Range) (r : Bool) → all ++ joined (drop k ts) ≡ joined ts → length ts ≤ k → IsPermutation all sorted → slice ≡ sorted → r ≡ ascends 0 slice → r ≡ true → NoneMeet (joined ts)
joined_once ts k all sorted slice r whole past p same is holds =
    let here : all ≡ joined ts = sym (append-nil all) ∙ (ap (λ l. all ++ joined l) (sym (none_left ts k past)) ∙ whole) in
    let up : ascends 0 sorted ≡ true = ap (ascends 0) (sym same) ∙ (sym is ∙ holds) in
    subst NoneMeet here (sorted_once all sorted p up)

-- the tables that were made are all
pub tables_apart : (b : List ℕ) (n : ℕ) (ts slice : List (List Range)) → SECTIONS + 1 ≤ n → slice ≡ ts → ts ++ map (λ k. ranges_of b k) (range_with_len n (SECTIONS + 1 - n)) ≡ tables b → NoneMeet (joined slice) → None ≡ first_overlap b
tables_apart b n ts slice past same whole none =
    let gone : SECTIONS + 1 - n ≡ 0 = omega arith in
    let all : ts ≡ tables b = sym (append-nil ts) ∙ (ap (λ k. ts ++ map (λ k. ranges_of b k) (range_with_len n k)) (sym gone) ∙ whole) in
    sym (none_overlap b (subst (λ l. NoneMeet (joined l)) (same ∙ all) none))
