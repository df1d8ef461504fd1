-- What is found among indexes that have all candidates is the offer
use Rattle.std.proofs.Common.{◌≡◌, ◌≢◌, ◌⊎◌, inl, inr, ℕ, zero, suc, ◌+◌, ◌<◌, ◌≤◌, ◌==◌, ◌||◌, ◌&&◌, not, Bool, true, false, cond, List, [], ◌∷◌, Option, Some, None, length, max, min, refl, sym, ap, ◌∙◌, arith}
use Rattle.std.specs.Prelude.{filter, nat_le, slice_get}
use Rattle.std.specs.List.{fold, position_from}
use Rattle.std.specs.Option.{option_map, option_or}
use Rattle.std.specs.Str.{bytes_eq}
use Rattle.std.proofs.lemmas.Bool.Decides.{nat_tests}
use Rattle.hash_lookup.specs.Finding.{Wish, best_of, found_in, greater, is_among, is_spare, is_spare_by, is_sure, is_sure_by, kept, lesser, nothing, passes, passes_in, the_one, with_symbol}
use Rattle.hash_lookup.specs.Listed.{ListsAll, matches_of, table_lists}
use Rattle.hash_lookup.specs.declared.finding.Found.{Found}
use Rattle.hash_lookup.specs.declared.tables.Table.{Table}
use Rattle.hash_lookup.specs.declared.tables.Table.TheVariants.{Gnu, Sysv, Absent}
use Rattle.hash_lookup.proofs.ChainLemmas.{gnu_among, gnu_no_zero, sysv_among, sysv_no_zero}
use Rattle.std.proofs.lemmas.Slice.Eq.{bytes_eq-Decides}
use Rattle.load_model.specs.Hashes.{gnu_hash, sysv_hash}
use Rattle.load_model.specs.Offers.{has_wanted_version, is_accepted, is_candidate, is_early, is_first_version, is_local, is_open_to, is_shown, offer_of, real_syms, suits}
use Rattle.load_model.specs.SymbolWords.{is_bindable}
use Rattle.load_model.specs.declared.symbols.Class.{Class}
use Rattle.load_model.specs.declared.symbols.Sym.{Sym}
use Rattle.load_model.proofs.Selected.{early_first, none_further, none_shown, one_further, one_shown}

same_bytes : (a b : List ℕ) → bytes_eq a b ≡ true → a ≡ b
same_bytes a b e = (bytes_eq-Decides a b).0 e

-- the parts of what is found are kept each on its own
sure_alone : (w : Wish) (syms : List Sym) (f : Found) (indexes : List ℕ) → (found_in w syms f indexes).sure ≡ fold (kept lesser (is_sure w) syms) f.sure indexes
unfolding found_in with_symbol
sure_alone w syms f [] = refl
sure_alone w syms f (i ∷ more) = sure_alone w syms (with_symbol w syms f i) more

least_alone : (w : Wish) (syms : List Sym) (f : Found) (indexes : List ℕ) → (found_in w syms f indexes).least ≡ fold (kept lesser (is_spare w) syms) f.least indexes
unfolding found_in with_symbol
least_alone w syms f [] = refl
least_alone w syms f (i ∷ more) = least_alone w syms (with_symbol w syms f i) more

greatest_alone : (w : Wish) (syms : List Sym) (f : Found) (indexes : List ℕ) → (found_in w syms f indexes).greatest ≡ fold (kept greater (is_spare w) syms) f.greatest indexes
unfolding found_in with_symbol
greatest_alone w syms f [] = refl
greatest_alone w syms f (i ∷ more) = greatest_alone w syms (with_symbol w syms f i) more

-- what is kept passes the test, and is no symbol of index 0
abbrev IsKept : (Sym → Bool) → List Sym → Option ℕ → Type 0
IsKept test syms None = Unit {0}
IsKept test syms (Some k) = (k ≢ 0) × (passes test syms k ≡ true)

either_kept : (test : Sym → Bool) (syms : List Sym) (k i n : ℕ) → IsKept test syms (Some k) → IsKept test syms (Some i) → (n ≡ k) ⊎ (n ≡ i) → IsKept test syms (Some n)
either_kept test syms k i n a b (inl e) = rw e a
either_kept test syms k i n a b (inr e) = rw e b

min_either : (k i : ℕ) → (min k i ≡ k) ⊎ (min k i ≡ i)
min_either k i = go (nat_le k i) refl
  where
    go : (b : Bool) → nat_le k i ≡ b → (min k i ≡ k) ⊎ (min k i ≡ i)
    go true e = let h : k ≤ i = grind (arith, nat_tests) in inl (omega arith)
    go false e = let h : i < k = grind (arith, nat_tests) in inr (omega arith)

max_either : (k i : ℕ) → (max k i ≡ k) ⊎ (max k i ≡ i)
max_either k i = go (nat_le k i) refl
  where
    go : (b : Bool) → nat_le k i ≡ b → (max k i ≡ k) ⊎ (max k i ≡ i)
    go true e = let h : k ≤ i = grind (arith, nat_tests) in inr (omega arith)
    go false e = let h : i < k = grind (arith, nat_tests) in inl (omega arith)

lesser_kept : (test : Sym → Bool) (syms : List Sym) (o : Option ℕ) (i : ℕ) → IsKept test syms o → IsKept test syms (Some i) → IsKept test syms (lesser o i)
lesser_kept test syms None i a b = b
lesser_kept test syms (Some k) i a b = either_kept test syms k i (min k i) a b (min_either k i)

greater_kept : (test : Sym → Bool) (syms : List Sym) (o : Option ℕ) (i : ℕ) → IsKept test syms o → IsKept test syms (Some i) → IsKept test syms (greater o i)
greater_kept test syms None i a b = b
greater_kept test syms (Some k) i a b = either_kept test syms k i (max k i) a b (max_either k i)

one_kept : (test : Sym → Bool) (syms : List Sym) (o n : Option ℕ) (i : ℕ) → IsKept test syms o → i ≢ 0 → (IsKept test syms (Some i) → IsKept test syms n) → IsKept test syms (cond (passes test syms i) n o)
one_kept test syms o n i a z f = go (passes test syms i) refl
  where
    go : (b : Bool) → passes test syms i ≡ b → IsKept test syms (cond b n o)
    go true e = f (z, e)
    go false e = a

not_zero : (i : ℕ) (rest : Bool) → ((i == 0) || rest) ≡ false → (i ≢ 0) × (rest ≡ false)
not_zero i rest e = go (i == 0) refl e
  where
    go : (b : Bool) → (i == 0) ≡ b → (b || rest) ≡ false → (i ≢ 0) × (rest ≡ false)
    go true t e = absurd (cc)
    go false t e = (grind (arith, nat_tests), e)

all_least_kept : (test : Sym → Bool) (syms : List Sym) (o : Option ℕ) (indexes : List ℕ) → IsKept test syms o → is_among 0 indexes ≡ false → IsKept test syms (fold (kept lesser test syms) o indexes)
all_least_kept test syms o [] a z = a
all_least_kept test syms o (i ∷ more) a z =
    let p = not_zero i (is_among 0 more) z in
    all_least_kept test syms (kept lesser test syms o i) more (one_kept test syms o (lesser o i) i a p.0 (λ b. lesser_kept test syms o i a b)) p.1

all_greatest_kept : (test : Sym → Bool) (syms : List Sym) (o : Option ℕ) (indexes : List ℕ) → IsKept test syms o → is_among 0 indexes ≡ false → IsKept test syms (fold (kept greater test syms) o indexes)
all_greatest_kept test syms o [] a z = a
all_greatest_kept test syms o (i ∷ more) a z =
    let p = not_zero i (is_among 0 more) z in
    all_greatest_kept test syms (kept greater test syms o i) more (one_kept test syms o (greater o i) i a p.0 (λ b. greater_kept test syms o i a b)) p.1

-- an index that passes is not below the least, nor above the greatest
abbrev IsFrom : Option ℕ → ℕ → Type 0
IsFrom None i = ⊥
IsFrom (Some k) i = k ≤ i

abbrev IsUpTo : Option ℕ → ℕ → Type 0
IsUpTo None i = ⊥
IsUpTo (Some k) i = i ≤ k

least_stays : (b : Bool) (o : Option ℕ) (j i : ℕ) → IsFrom o i → IsFrom (cond b (lesser o j) o) i
least_stays true None j i h = absurd h
least_stays true (Some k) j i h = omega arith
least_stays false o j i h = h

greatest_stays : (b : Bool) (o : Option ℕ) (j i : ℕ) → IsUpTo o i → IsUpTo (cond b (greater o j) o) i
greatest_stays true None j i h = absurd h
greatest_stays true (Some k) j i h = omega arith
greatest_stays false o j i h = h

least_here : (o : Option ℕ) (i : ℕ) → IsFrom (lesser o i) i
least_here None i = omega arith
least_here (Some k) i = omega arith

greatest_here : (o : Option ℕ) (i : ℕ) → IsUpTo (greater o i) i
greatest_here None i = omega arith
greatest_here (Some k) i = omega arith

least_through : (test : Sym → Bool) (syms : List Sym) (o : Option ℕ) (indexes : List ℕ) (i : ℕ) → IsFrom o i → IsFrom (fold (kept lesser test syms) o indexes) i
least_through test syms o [] i h = h
least_through test syms o (j ∷ more) i h = least_through test syms (kept lesser test syms o j) more i (least_stays (passes test syms j) o j i h)

greatest_through : (test : Sym → Bool) (syms : List Sym) (o : Option ℕ) (indexes : List ℕ) (i : ℕ) → IsUpTo o i → IsUpTo (fold (kept greater test syms) o indexes) i
greatest_through test syms o [] i h = h
greatest_through test syms o (j ∷ more) i h = greatest_through test syms (kept greater test syms o j) more i (greatest_stays (passes test syms j) o j i h)

least_counts : (test : Sym → Bool) (syms : List Sym) (o : Option ℕ) (indexes : List ℕ) (i : ℕ) → is_among i indexes ≡ true → passes test syms i ≡ true → IsFrom (fold (kept lesser test syms) o indexes) i
least_counts test syms o [] i h p = absurd (cc)
least_counts test syms o (j ∷ more) i h p = go (j == i) refl h (λ e. least_counts test syms (kept lesser test syms o j) more i e p)
  where
    go : (b : Bool) → (j == i) ≡ b → (b || is_among i more) ≡ true → (is_among i more ≡ true → IsFrom (fold (kept lesser test syms) (kept lesser test syms o j) more) i) → IsFrom (fold (kept lesser test syms) (kept lesser test syms o j) more) i
    go true e h later =
        let same : j ≡ i = grind (arith, nat_tests) in
        let here : IsFrom (kept lesser test syms o j) i = rw (same, p) (least_here o i) in
        least_through test syms (kept lesser test syms o j) more i here
    go false e h later = later h

greatest_counts : (test : Sym → Bool) (syms : List Sym) (o : Option ℕ) (indexes : List ℕ) (i : ℕ) → is_among i indexes ≡ true → passes test syms i ≡ true → IsUpTo (fold (kept greater test syms) o indexes) i
greatest_counts test syms o [] i h p = absurd (cc)
greatest_counts test syms o (j ∷ more) i h p = go (j == i) refl h (λ e. greatest_counts test syms (kept greater test syms o j) more i e p)
  where
    go : (b : Bool) → (j == i) ≡ b → (b || is_among i more) ≡ true → (is_among i more ≡ true → IsUpTo (fold (kept greater test syms) (kept greater test syms o j) more) i) → IsUpTo (fold (kept greater test syms) (kept greater test syms o j) more) i
    go true e h later =
        let same : j ≡ i = grind (arith, nat_tests) in
        let here : IsUpTo (kept greater test syms o j) i = rw (same, p) (greatest_here o i) in
        greatest_through test syms (kept greater test syms o j) more i here
    go false e h later = later h

-- the first element that passes, and how many do
first_is : {X : Type 0} (test : X → Bool) (n : ℕ) (xs : List X) (i : ℕ) (x : X) → slice_get xs i ≡ Some x → test x ≡ true → ((j : ℕ) (y : X) → slice_get xs j ≡ Some y → test y ≡ true → i ≤ j) → position_from test n xs ≡ Some (n + i)
first_is test n [] i x at p least = absurd (cc)
first_is test n (y ∷ xs) zero x at p least =
    let same : y ≡ x = cc in
    let here : n + 0 ≡ n = omega arith in
    rw (same, p, here) refl
first_is test n (y ∷ xs) (suc i) x at p least =
    let place : n + 1 + i ≡ n + suc i = omega arith in
    go (test y) refl (rw place at (first_is test (n + 1) xs i x at p (λ j z a q. let h : suc i ≤ suc j = least (suc j) z a q in omega arith)))
  where
    go : (b : Bool) → test y ≡ b → position_from test (n + 1) xs ≡ Some (n + suc i) → cond b (Some n) (position_from test (n + 1) xs) ≡ Some (n + suc i)
    go true e later = absurd (let h : suc i ≤ 0 = least 0 y refl e in omega arith)
    go false e later = later

none_passes : {X : Type 0} (test : X → Bool) (n : ℕ) (xs : List X) → ((j : ℕ) (y : X) → slice_get xs j ≡ Some y → test y ≡ true → ⊥) → position_from test n xs ≡ None
none_passes test n [] none = refl
none_passes test n (y ∷ xs) none = go (test y) refl (none_passes test (n + 1) xs (λ j z a q. none (suc j) z a q))
  where
    go : (b : Bool) → test y ≡ b → position_from test (n + 1) xs ≡ None → cond b (Some n) (position_from test (n + 1) xs) ≡ None
    go true e later = absurd (none 0 y refl e)
    go false e later = later

count_none : {X : Type 0} (test : X → Bool) (xs : List X) → ((j : ℕ) (y : X) → slice_get xs j ≡ Some y → test y ≡ true → ⊥) → length (filter test xs) ≡ 0
count_none test [] none = refl
count_none test (y ∷ xs) none = go (test y) refl (count_none test xs (λ j z a q. none (suc j) z a q))
  where
    go : (b : Bool) → test y ≡ b → length (filter test xs) ≡ 0 → length (cond b (y ∷ filter test xs) (filter test xs)) ≡ 0
    go true e later = absurd (none 0 y refl e)
    go false e later = later

count_one : {X : Type 0} (test : X → Bool) (xs : List X) (i : ℕ) (x : X) → slice_get xs i ≡ Some x → test x ≡ true → ((j : ℕ) (y : X) → slice_get xs j ≡ Some y → test y ≡ true → j ≡ i) → length (filter test xs) ≡ 1
count_one test [] i x at p only = absurd (cc)
count_one test (y ∷ xs) zero x at p only =
    let same : y ≡ x = cc in
    let none : length (filter test xs) ≡ 0 = count_none test xs (λ j z a q. let h : suc j ≡ 0 = only (suc j) z a q in omega arith) in
    rw (same, p) (omega (arith, none))
count_one test (y ∷ xs) (suc i) x at p only = go (test y) refl (count_one test xs i x at p (λ j z a q. let h : suc j ≡ suc i = only (suc j) z a q in omega arith))
  where
    go : (b : Bool) → test y ≡ b → length (filter test xs) ≡ 1 → length (cond b (y ∷ filter test xs) (filter test xs)) ≡ 1
    go true e later = absurd (let h : 0 ≡ suc i = only 0 y refl e in omega arith)
    go false e later = later

count_some : {X : Type 0} (test : X → Bool) (xs : List X) (i : ℕ) (x : X) → slice_get xs i ≡ Some x → test x ≡ true → 1 ≤ length (filter test xs)
count_some test [] i x at p = absurd (cc)
count_some test (y ∷ xs) zero x at p =
    let same : y ≡ x = cc in
    rw (same, p) (omega arith)
count_some test (y ∷ xs) (suc i) x at p = go (test y) (count_some test xs i x at p)
  where
    go : (b : Bool) → 1 ≤ length (filter test xs) → 1 ≤ length (cond b (y ∷ filter test xs) (filter test xs))
    go true h = omega arith
    go false h = h

count_two : {X : Type 0} (test : X → Bool) (xs : List X) (i j : ℕ) (x y : X) → i < j → slice_get xs i ≡ Some x → test x ≡ true → slice_get xs j ≡ Some y → test y ≡ true → 2 ≤ length (filter test xs)
count_two test [] i j x y l at p there q = absurd (cc)
count_two test (z ∷ xs) zero zero x y l at p there q = absurd (omega arith)
count_two test (z ∷ xs) (suc i) zero x y l at p there q = absurd (omega arith)
count_two test (z ∷ xs) zero (suc j) x y l at p there q =
    let same : z ≡ x = cc in
    let more : 1 ≤ length (filter test xs) = count_some test xs j y there q in
    rw (same, p) (omega (arith, more))
count_two test (z ∷ xs) (suc i) (suc j) x y l at p there q = go (test z) (count_two test xs i j x y (omega arith) at p there q)
  where
    go : (b : Bool) → 2 ≤ length (filter test xs) → 2 ≤ length (cond b (z ∷ filter test xs) (filter test xs))
    go true h = omega arith
    go false h = h

-- the symbols behind the first one
behind : (syms : List Sym) (j : ℕ) → slice_get (real_syms syms) j ≡ slice_get syms (suc j)
behind [] j = refl
behind (s ∷ syms) j = refl

-- these indexes have all symbols that pass a test
record HaveAll (test : Sym → Bool) (syms : List Sym) (indexes : List ℕ) : Type 0 where
  each : (i : ℕ) (s : Sym) → i ≢ 0 → slice_get syms i ≡ Some s → test s ≡ true → is_among i indexes ≡ true

passing : (test : Sym → Bool) (syms : List Sym) (i : ℕ) (s : Sym) → slice_get syms i ≡ Some s → test s ≡ true → passes test syms i ≡ true
unfolding passes
passing test syms i s at p = rw at p

-- a symbol that passes, by its place behind the first one
record IsThere (test : Sym → Bool) (syms : List Sym) (k : ℕ) : Type 0 where
  place : ℕ
  sym : Sym
  index : k ≡ suc place
  at : slice_get (real_syms syms) place ≡ Some sym
  passes : test sym ≡ true

there_is : (test : Sym → Bool) (syms : List Sym) (k : ℕ) → k ≢ 0 → passes test syms k ≡ true → IsThere test syms k
unfolding passes
there_is test syms zero z p = absurd (z refl)
there_is test syms (suc j) z p = go (slice_get syms (suc j)) refl p
  where
    go : (o : Option Sym) → slice_get syms (suc j) ≡ o → passes_in test o ≡ true → IsThere test syms (suc j)
    go None e p = absurd (cc)
    go (Some s) e p = record { place = j; sym = s; index = refl; at = behind syms j ∙ e; passes = p }

among_them : (test : Sym → Bool) (syms : List Sym) (indexes : List ℕ) (j : ℕ) (s : Sym) → HaveAll test syms indexes → slice_get (real_syms syms) j ≡ Some s → test s ≡ true → (is_among (suc j) indexes ≡ true) × (passes test syms (suc j) ≡ true)
among_them test syms indexes j s all at p =
    let here : slice_get syms (suc j) ≡ Some s = sym (behind syms j) ∙ at in
    (all.each (suc j) s (λ e. omega arith) here p, passing test syms (suc j) s here p)

-- the least that is kept is the first that passes
least_is_first : (test : Sym → Bool) (syms : List Sym) (indexes : List ℕ) (n : ℕ) (o : Option ℕ) → HaveAll test syms indexes → is_among 0 indexes ≡ false → fold (kept lesser test syms) None indexes ≡ o → option_map (λ i. i + 1) (position_from test 0 (real_syms syms)) ≡ o
least_is_first test syms indexes n None all z e =
    rw (none_passes test 0 (real_syms syms) (λ j s at p.
    let a = among_them test syms indexes j s all at p in
    let low : IsFrom None (suc j) = rw e at (least_counts test syms None indexes (suc j) a.0 a.1) in
    low)) refl
least_is_first test syms indexes n (Some k) all z e =
    let kept_one : IsKept test syms (Some k) = rw e at (all_least_kept test syms None indexes tt z) in
    let t : IsThere test syms k = there_is test syms k kept_one.0 kept_one.1 in
    let first : position_from test 0 (real_syms syms) ≡ Some (0 + t.place) = first_is test 0 (real_syms syms) t.place t.sym t.at t.passes (λ j s at p.
    let a = among_them test syms indexes j s all at p in
    let low : IsFrom (Some k) (suc j) = rw e at (least_counts test syms None indexes (suc j) a.0 a.1) in
    let index : k ≡ suc t.place = t.index in
    omega arith) in
    let index : k ≡ suc t.place = t.index in
    let same : 0 + t.place + 1 ≡ k = omega arith in
    rw (first, same) refl

-- how many pass, by the least and the greatest that are kept
only_one : (test : Sym → Bool) (syms : List Sym) (indexes : List ℕ) (k : ℕ) → HaveAll test syms indexes → is_among 0 indexes ≡ false → fold (kept lesser test syms) None indexes ≡ Some k → fold (kept greater test syms) None indexes ≡ Some k → length (filter test (real_syms syms)) ≡ 1
only_one test syms indexes k all z e f =
    let kept_one : IsKept test syms (Some k) = rw e at (all_least_kept test syms None indexes tt z) in
    let t : IsThere test syms k = there_is test syms k kept_one.0 kept_one.1 in
    count_one test (real_syms syms) t.place t.sym t.at t.passes (λ j s at p.
    let a = among_them test syms indexes j s all at p in
    let low : IsFrom (Some k) (suc j) = rw e at (least_counts test syms None indexes (suc j) a.0 a.1) in
    let high : IsUpTo (Some k) (suc j) = rw f at (greatest_counts test syms None indexes (suc j) a.0 a.1) in
    let index : k ≡ suc t.place = t.index in
    omega arith)

not_one : (test : Sym → Bool) (syms : List Sym) (indexes : List ℕ) (a b : ℕ) → a ≢ b → is_among 0 indexes ≡ false → HaveAll test syms indexes → fold (kept lesser test syms) None indexes ≡ Some a → fold (kept greater test syms) None indexes ≡ Some b → length (filter test (real_syms syms)) ≢ 1
not_one test syms indexes a b apart z all e f =
    let kept_low : IsKept test syms (Some a) = rw e at (all_least_kept test syms None indexes tt z) in
    let kept_high : IsKept test syms (Some b) = rw f at (all_greatest_kept test syms None indexes tt z) in
    let t : IsThere test syms a = there_is test syms a kept_low.0 kept_low.1 in
    let u : IsThere test syms b = there_is test syms b kept_high.0 kept_high.1 in
    let m = among_them test syms indexes u.place u.sym all u.at u.passes in
    let low : IsFrom (Some a) (suc u.place) = rw e at (least_counts test syms None indexes (suc u.place) m.0 m.1) in
    let first : a ≡ suc t.place = t.index in
    let last : b ≡ suc u.place = u.index in
    let two : 2 ≤ length (filter test (real_syms syms)) = count_two test (real_syms syms) t.place u.place t.sym u.sym (omega arith) t.at t.passes u.at u.passes in
    λ one. omega (arith, two, one)

no_one : (test : Sym → Bool) (syms : List Sym) (indexes : List ℕ) → HaveAll test syms indexes → (fold (kept lesser test syms) None indexes ≡ None) ⊎ (fold (kept greater test syms) None indexes ≡ None) → length (filter test (real_syms syms)) ≢ 1
no_one test syms indexes all lost =
    let none : length (filter test (real_syms syms)) ≡ 0 = count_none test (real_syms syms) (λ j s at p.
    let a = among_them test syms indexes j s all at p in
    go (suc j) lost (least_counts test syms None indexes (suc j) a.0 a.1) (greatest_counts test syms None indexes (suc j) a.0 a.1)) in
    λ one. omega (arith, none, one)
  where
    go : (i : ℕ) → (fold (kept lesser test syms) None indexes ≡ None) ⊎ (fold (kept greater test syms) None indexes ≡ None) → IsFrom (fold (kept lesser test syms) None indexes) i → IsUpTo (fold (kept greater test syms) None indexes) i → ⊥
    go i (inl e) low high = let h : IsFrom None i = rw e at low in h
    go i (inr e) low high = let h : IsUpTo None i = rw e at high in h

-- indexes count from 1 on behind the first symbol
shifted : (test : Sym → Bool) (syms : List Sym) → position_from test 1 syms ≡ option_map (λ i. i + 1) (position_from test 0 syms)
shifted test syms = go (position_from test 0 syms) refl
  where
    go : (o : Option ℕ) → position_from test 0 syms ≡ o → position_from test 1 syms ≡ option_map (λ i. i + 1) o
    go None e = none_further test syms e
    go (Some i) e = one_further test i syms e

best_by : (w : Wish) (syms : List Sym) (indexes : List ℕ) → best_of (found_in w syms nothing indexes) ≡ option_or (fold (kept lesser (is_sure w) syms) None indexes) (the_one (fold (kept lesser (is_spare w) syms) None indexes) (fold (kept greater (is_spare w) syms) None indexes))
best_by w syms indexes = rw (sure_alone w syms nothing indexes, least_alone w syms nothing indexes, greatest_alone w syms nothing indexes) refl

-- where no symbol is spare
none_spare : (test : Sym → Bool) (syms : List Sym) (indexes : List ℕ) → is_among 0 indexes ≡ false → ((s : Sym) → test s ≡ false) → fold (kept lesser test syms) None indexes ≡ None
none_spare test syms indexes z never = go (fold (kept lesser test syms) None indexes) (all_least_kept test syms None indexes tt z)
  where
    go : (o : Option ℕ) → IsKept test syms o → o ≡ None
    go None a = refl
    go (Some k) a = let t : IsThere test syms k = there_is test syms k a.0 a.1 in absurd (let no : test t.sym ≡ false = never t.sym in let yes : test t.sym ≡ true = t.passes in cc)

or_none : (o greatest : Option ℕ) → option_or o (the_one None greatest) ≡ o
or_none None greatest = refl
or_none (Some k) greatest = refl

plain_best : (w : Wish) (syms : List Sym) (indexes : List ℕ) → HaveAll (is_sure w) syms indexes → is_among 0 indexes ≡ false → ((s : Sym) → is_spare w s ≡ false) → best_of (found_in w syms nothing indexes) ≡ position_from (is_sure w) 1 (real_syms syms)
plain_best w syms indexes all z never =
    let first = least_is_first (is_sure w) syms indexes 0 (fold (kept lesser (is_sure w) syms) None indexes) all z refl in
    best_by w syms indexes ∙ (rw (none_spare (is_spare w) syms indexes z never) (or_none (fold (kept lesser (is_sure w) syms) None indexes) (fold (kept greater (is_spare w) syms) None indexes)) ∙ (sym first ∙ sym (shifted (is_sure w) (real_syms syms))))

-- where early symbols go before the only one that is shown
record IsCounted (test : Sym → Bool) (syms : List Sym) (least greatest : Option ℕ) : Type 0 where
  first : option_map (λ i. i + 1) (position_from test 0 syms) ≡ least
  one : (a : ℕ) → least ≡ Some a → greatest ≡ Some a → length (filter test syms) ≡ 1
  apart : (a b : ℕ) → a ≢ b → least ≡ Some a → greatest ≡ Some b → length (filter test syms) ≢ 1
  lost : (least ≡ None) ⊎ (greatest ≡ None) → length (filter test syms) ≢ 1

not_found : (o : Option ℕ) → option_map (λ i. i + 1) o ≡ None → o ≡ None
not_found None e = refl
not_found (Some i) e = absurd (cc)

early_best : (syms : List Sym) (name : List ℕ) (class : Class) (sure least greatest : Option ℕ) → option_map (λ i. i + 1) (position_from (is_early name class) 0 syms) ≡ sure → IsCounted (is_shown name class) syms least greatest → option_map (λ i. i + 1) (position_from (is_accepted syms name class true None) 0 syms) ≡ option_or sure (the_one least greatest)
early_best syms name class (Some k) least greatest e counted = go (position_from (is_early name class) 0 syms) refl e
  where
    go : (o : Option ℕ) → position_from (is_early name class) 0 syms ≡ o → option_map (λ i. i + 1) o ≡ Some k → option_map (λ i. i + 1) (position_from (is_accepted syms name class true None) 0 syms) ≡ Some k
    go None f e = absurd (cc)
    go (Some j) f e = rw (early_first syms name class j f) e
early_best syms name class None None greatest e counted =
    let none : position_from (is_early name class) 0 syms ≡ None = not_found (position_from (is_early name class) 0 syms) e in
    rw (none_shown syms name class none (counted.lost (inl refl))) refl
early_best syms name class None (Some a) None e counted =
    let none : position_from (is_early name class) 0 syms ≡ None = not_found (position_from (is_early name class) 0 syms) e in
    rw (none_shown syms name class none (counted.lost (inr refl))) refl
early_best syms name class None (Some a) (Some b) e counted =
    let none : position_from (is_early name class) 0 syms ≡ None = not_found (position_from (is_early name class) 0 syms) e in
    go none (a == b) refl
  where
    go : position_from (is_early name class) 0 syms ≡ None → (t : Bool) → (a == b) ≡ t → option_map (λ i. i + 1) (position_from (is_accepted syms name class true None) 0 syms) ≡ cond t (Some a) None
    go none true t =
        let same : b ≡ a = grind (arith, nat_tests) in
        let shown : position_from (is_accepted syms name class true None) 0 syms ≡ position_from (is_shown name class) 0 syms = one_shown syms name class none (counted.one a refl (ap Some same)) in
        rw shown counted.first
    go none false t =
        let other : a ≢ b = grind (arith, nat_tests) in
        rw (none_shown syms name class none (counted.apart a b other refl refl)) refl

-- a symbol that is sure or spare is a candidate
first_of_both : (a b : Bool) → (a && b) ≡ true → a ≡ true
first_of_both true b e = refl
first_of_both false b e = absurd (cc)

have_sure : (w : Wish) (syms : List Sym) (indexes : List ℕ) → HaveAll (is_candidate w.name w.class) syms indexes → HaveAll (is_sure w) syms indexes
unfolding is_sure
have_sure w syms indexes all = record { each = λ i s z at e. all.each i s z at (go w.versioned w.version s e) }
  where
    go : (versioned : Bool) (version : Option (List ℕ)) (s : Sym) → is_sure_by versioned version w.name w.class s ≡ true → is_candidate w.name w.class s ≡ true
    go false version s e = e
    go true None s e = first_of_both (is_candidate w.name w.class s) (is_first_version s.version) e
    go true (Some wanted) s e = first_of_both (is_candidate w.name w.class s) (has_wanted_version wanted s) e

have_spare : (w : Wish) (syms : List Sym) (indexes : List ℕ) → HaveAll (is_candidate w.name w.class) syms indexes → HaveAll (is_spare w) syms indexes
unfolding is_spare
have_spare w syms indexes all = record { each = λ i s z at e. all.each i s z at (go w.versioned w.version s e) }
  where
    go : (versioned : Bool) (version : Option (List ℕ)) (s : Sym) → is_spare_by versioned version w.name w.class s ≡ true → is_candidate w.name w.class s ≡ true
    go false version s e = absurd (cc)
    go true None s e = first_of_both (is_candidate w.name w.class s) (not s.hidden) e
    go true (Some wanted) s e = absurd (cc)

counted_spare : (test : Sym → Bool) (syms : List Sym) (indexes : List ℕ) → HaveAll test syms indexes → is_among 0 indexes ≡ false → IsCounted test (real_syms syms) (fold (kept lesser test syms) None indexes) (fold (kept greater test syms) None indexes)
counted_spare test syms indexes all z = record {
  first = least_is_first test syms indexes 0 (fold (kept lesser test syms) None indexes) all z refl;
  one = λ a e f. only_one test syms indexes a all z e f;
  apart = λ a b other e f. not_one test syms indexes a b other z all e f;
  lost = λ none. no_one test syms indexes all none;
}

-- what is found is the offer
by_wish : (syms : List Sym) (name : List ℕ) (version : Option (List ℕ)) (class : Class) (versioned : Bool) (indexes : List ℕ) → HaveAll (is_candidate name class) syms indexes → is_among 0 indexes ≡ false → best_of (found_in (record { name = name; version = version; class = class; versioned = versioned }) syms nothing indexes) ≡ offer_of (record { syms = syms; versioned = versioned }) name version class
unfolding is_sure is_spare offer_of
by_wish syms name version class false indexes all z =
    let w : Wish = record { name = name; version = version; class = class; versioned = false } in
    plain_best w syms indexes (have_sure w syms indexes all) z (λ s. refl)
by_wish syms name (Some wanted) class true indexes all z =
    let w : Wish = record { name = name; version = Some wanted; class = class; versioned = true } in
    plain_best w syms indexes (have_sure w syms indexes all) z (λ s. refl)
by_wish syms name None class true indexes all z =
    let w : Wish = record { name = name; version = None; class = class; versioned = true } in
    let sure = least_is_first (is_sure w) syms indexes 0 (fold (kept lesser (is_sure w) syms) None indexes) (have_sure w syms indexes all) z refl in
    let spare = counted_spare (is_spare w) syms indexes (have_spare w syms indexes all) z in
    best_by w syms indexes ∙ (sym (early_best (real_syms syms) name class (fold (kept lesser (is_sure w) syms) None indexes) (fold (kept lesser (is_spare w) syms) None indexes) (fold (kept greater (is_spare w) syms) None indexes) sure spare) ∙ sym (shifted (is_accepted (real_syms syms) name class true None) (real_syms syms)))

-- all candidates are among the symbols whose names are compared
matches_all : (table : Table) (syms : List Sym) (name : List ℕ) (class : Class) → ListsAll table syms → HaveAll (is_candidate name class) syms (matches_of table name)
matches_all table syms name class all = record { each = λ i s z at e. go i s z at (first_of_both (is_open_to class s) (bytes_eq s.name name && not (is_local s.version)) e) e }
  where
    among : (t : Table) (i : ℕ) → table_lists t name i ≡ true → is_among i (matches_of t name) ≡ true
    among (Gnu t) i e = gnu_among t (gnu_hash name) i e
    among (Sysv t) i e = sysv_among t (sysv_hash name) i e
    among Absent i e = absurd (cc)

    go : (i : ℕ) (s : Sym) → i ≢ 0 → slice_get syms i ≡ Some s → is_open_to class s ≡ true → is_candidate name class s ≡ true → is_among i (matches_of table name) ≡ true
    go i s z at free e =
        let named : (bytes_eq s.name name && not (is_local s.version)) ≡ true = rw free at e in
        let same : s.name ≡ name = same_bytes s.name name (first_of_both (bytes_eq s.name name) (not (is_local s.version)) named) in
        let bindable = first_of_both (is_bindable s.binding s.kind s.visibility s.value_set) (suits class s.defined) free in
        let listed : table_lists table name i ≡ true = rw same at (all.lists i s z at bindable) in
        among table i listed

no_zero_match : (table : Table) (name : List ℕ) → is_among 0 (matches_of table name) ≡ false
no_zero_match (Gnu t) name = gnu_no_zero t (gnu_hash name)
no_zero_match (Sysv t) name = sysv_no_zero t (sysv_hash name)
no_zero_match Absent name = refl

pub looks_up : (table : Table) (syms : List Sym) (name : List ℕ) (version : Option (List ℕ)) (class : Class) (versioned : Bool) → ListsAll table syms → best_of (found_in (record { name = name; version = version; class = class; versioned = versioned }) syms nothing (matches_of table name)) ≡ offer_of (record { syms = syms; versioned = versioned }) name version class
looks_up table syms name version class versioned all =
    by_wish syms name version class versioned (matches_of table name) (matches_all table syms name class all) (no_zero_match table name)
