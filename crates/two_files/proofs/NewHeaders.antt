-- What the new headers keep.
use Rattle.std.proofs.Common.{◌≡◌, ℕ, suc, ◌+◌, ◌≤◌, ◌==◌, ◌||◌, ◌&&◌, Bool, true, false, cond, not, List, [], ◌∷◌, ◌++◌, Option, Some, None, is_some, map, refl, ap, sym, ◌∙◌, arith}
use Rattle.std.specs.Prelude.{nat_lt}
use Rattle.std.specs.List.{All, filter, find, list_any, position_from}
use Rattle.std.specs.Option.{option_map}
use Rattle.std.proofs.lemmas.Bool.Decides.{nat_tests}
use Rattle.std.proofs.lemmas.List.Elements.{All-head, All-tail}
use Rattle.byte_view.specs.HeaderFlaws.{first_below, has_bad_range}
use Rattle.byte_view.specs.Headers.{is_dynamic, is_interp, is_load}
use Rattle.byte_view.specs.Memory.{backs, file_range, range_in}
use Rattle.byte_view.specs.declared.segments.Segment.{Segment}
use Rattle.two_files.specs.Alike.{KeepsRanges}
use Rattle.two_files.specs.NewHeaders.{AddsLoad, LeavesLoads, add_load}

-- a test that only LOADs pass is decided by the LOADs
pub find_loads : (p : Segment → Bool) (xs : List Segment) → ((s : Segment) → p s ≡ true → is_load s ≡ true) → find p (filter is_load xs) ≡ find p xs
find_loads p [] only = refl
find_loads p (s ∷ more) only = go (is_load s) (p s) refl refl (find_loads p more only)
  where
    go : (a b : Bool) → is_load s ≡ a → p s ≡ b → find p (filter is_load more) ≡ find p more → find p (cond a (s ∷ filter is_load more) (filter is_load more)) ≡ cond b (Some s) (find p more)
    go true true l t later = rw t refl
    go true false l t later = rw t later
    go false true l t later = absurd (let load : is_load s ≡ true = only s t in cc)
    go false false l t later = later

find_front : (p : Segment → Bool) (xs ys : List Segment) (s : Segment) → find p xs ≡ Some s → find p (xs ++ ys) ≡ Some s
find_front p [] ys s e = absurd (cc)
find_front p (x ∷ xs) ys s e = go (p x) e (find_front p xs ys s)
  where
    go : (b : Bool) → cond b (Some x) (find p xs) ≡ Some s → (find p xs ≡ Some s → find p (xs ++ ys) ≡ Some s) → cond b (Some x) (find p (xs ++ ys)) ≡ Some s
    go true e later = e
    go false e later = later e

-- what a segment backs, it backs among the new headers
pub ranges_kept : (bs cs : List Segment) (last : Segment) → AddsLoad bs cs last → KeepsRanges bs cs
unfolding range_in
ranges_kept bs cs last adds = record {
  keeps = λ addr len e. go addr len (len == 0) (find (backs addr len) bs) refl e;
}
  where
    loaded : (addr len : ℕ) (s : Segment) → backs addr len s ≡ true → is_load s ≡ true
    loaded addr len s h = grind (arith, nat_tests)

    go : (addr len : ℕ) (b : Bool) (o : Option Segment) → find (backs addr len) bs ≡ o → is_some (cond b (Some (0, 0)) (option_map (file_range addr len) o)) ≡ true → cond b (Some (0, 0)) (option_map (file_range addr len) (find (backs addr len) cs)) ≡ cond b (Some (0, 0)) (option_map (file_range addr len) o)
    go addr len true o f e = refl
    go addr len false None f e = absurd (cc)
    go addr len false (Some s) f e =
        let old : find (backs addr len) (filter is_load bs) ≡ Some s = find_loads (backs addr len) bs (loaded addr len) ∙ f in
        let there : find (backs addr len) (filter is_load cs) ≡ Some s = rw adds.loads (find_front (backs addr len) (filter is_load bs) (last ∷ []) s old) in
        let same : find (backs addr len) cs ≡ Some s = sym (find_loads (backs addr len) cs (loaded addr len)) ∙ there in
        rw same refl

-- a header behind the last LOAD is the last LOAD
no_loads : (xs : List Segment) → list_any is_load xs ≡ false → filter is_load xs ≡ []
no_loads [] h = refl
no_loads (s ∷ more) h = grind (arith, nat_tests, no_loads more)

pub load_added : (last : Segment) (xs : List Segment) → is_load last ≡ true → list_any is_load xs ≡ true → filter is_load (add_load last xs) ≡ filter is_load xs ++ last ∷ []
load_added last [] l h = absurd (cc)
load_added last (s ∷ more) l h =
    go (list_any is_load more) (is_load s) refl refl h (λ g. load_added last more l g) (λ g. no_loads more g)
  where
    go : (a c : Bool) → list_any is_load more ≡ a → is_load s ≡ c → (c || a) ≡ true
        → (list_any is_load more ≡ true → filter is_load (add_load last more) ≡ filter is_load more ++ last ∷ [])
        → (list_any is_load more ≡ false → filter is_load more ≡ [])
        → filter is_load (cond a (s ∷ add_load last more) (cond c (s ∷ (last ∷ more)) (s ∷ add_load last more))) ≡ cond c (s ∷ filter is_load more) (filter is_load more) ++ last ∷ []
    go true true a c h on none = rw c (ap (λ xs. s ∷ xs) (on a))
    go true false a c h on none = rw c (on a)
    go false true a c h on none = rw (c, l, none a) refl
    go false false a c h on none = absurd (cc)

kind_load : (move : Segment → Segment) (s : Segment) → LeavesLoads move → is_load (move s) ≡ is_load s
kind_load move s leaves = rw (leaves.kinds s) refl

moved_loads : (move : Segment → Segment) (xs : List Segment) → LeavesLoads move → filter is_load (map move xs) ≡ filter is_load xs
moved_loads move [] leaves = refl
moved_loads move (s ∷ more) leaves = go (is_load s) refl (moved_loads move more leaves)
  where
    go : (b : Bool) → is_load s ≡ b → filter is_load (map move more) ≡ filter is_load more → cond (is_load (move s)) (move s ∷ filter is_load (map move more)) (filter is_load (map move more)) ≡ cond b (s ∷ filter is_load more) (filter is_load more)
    go true b on = rw (leaves.loads s b, b, on) refl
    go false b on = rw (kind_load move s leaves, b) on

any_moved : (move : Segment → Segment) (xs : List Segment) → LeavesLoads move → list_any is_load (map move xs) ≡ list_any is_load xs
any_moved move [] leaves = refl
any_moved move (s ∷ more) leaves = rw (kind_load move s leaves, any_moved move more leaves) refl

pub adds_load : (move : Segment → Segment) (last : Segment) (xs : List Segment) → LeavesLoads move → is_load last ≡ true → list_any is_load xs ≡ true → AddsLoad xs (add_load last (map move xs)) last
adds_load move last xs leaves l some = record {
  loads = load_added last (map move xs) l (any_moved move xs leaves ∙ some) ∙ ap (λ ys. ys ++ last ∷ []) (moved_loads move xs leaves);
}

-- the order of LOADs, by LOADs alone
abbrev rises : (Segment → ℕ) → ℕ → List Segment → Bool
rises bound low [] = true
rises bound low (s ∷ more) = not (nat_lt s.vaddr low) && rises bound (bound s) more

order_loads : (bound : Segment → ℕ) (i low : ℕ) (xs : List Segment) → is_some (first_below bound i low xs) ≡ not (rises bound low (filter is_load xs))
unfolding first_below
order_loads bound i low [] = refl
order_loads bound i low (s ∷ more) = go (is_load s) (nat_lt s.vaddr low) (order_loads bound (suc i) (bound s) more) (order_loads bound (suc i) low more) refl
  where
    go : (a b : Bool) → is_some (first_below bound (suc i) (bound s) more) ≡ not (rises bound (bound s) (filter is_load more)) → is_some (first_below bound (suc i) low more) ≡ not (rises bound low (filter is_load more)) → nat_lt s.vaddr low ≡ b
        → is_some (cond a (cond b (Some i) (first_below bound (suc i) (bound s) more)) (first_below bound (suc i) low more)) ≡ not (rises bound low (cond a (s ∷ filter is_load more) (filter is_load more)))
    go true true here other t = rw t refl
    go true false here other t = rw t here
    go false b here other t = other

rises_more : (bound : Segment → ℕ) (low : ℕ) (xs : List Segment) (last : Segment) → rises bound low xs ≡ true → All (λ s. bound s ≤ last.vaddr) xs → low ≤ last.vaddr → rises bound low (xs ++ last ∷ []) ≡ true
rises_more bound low [] last h all top = let no : nat_lt last.vaddr low ≡ false = grind (arith, nat_tests) in rw no refl
rises_more bound low (s ∷ more) last h all top =
    go (nat_lt s.vaddr low) h (λ g. rises_more bound (bound s) more last g (All-tail (λ s. bound s ≤ last.vaddr) s more all) (All-head (λ s. bound s ≤ last.vaddr) s more all))
  where
    go : (b : Bool) → (not b && rises bound (bound s) more) ≡ true → (rises bound (bound s) more ≡ true → rises bound (bound s) (more ++ last ∷ []) ≡ true) → (not b && rises bound (bound s) (more ++ last ∷ [])) ≡ true
    go true h on = absurd (cc)
    go false h on = on h

none_of : (o : Option ℕ) → is_some o ≡ false → o ≡ None
none_of None e = refl
none_of (Some i) e = absurd (cc)

pub order_kept : (bound : Segment → ℕ) (bs cs : List Segment) (last : Segment) → AddsLoad bs cs last → All (λ s. bound s ≤ last.vaddr) (filter is_load bs) → first_below bound 0 0 bs ≡ None → first_below bound 0 0 cs ≡ None
order_kept bound bs cs last adds all e =
    let old : rises bound 0 (filter is_load bs) ≡ true = flip (rises bound 0 (filter is_load bs)) (sym (order_loads bound 0 0 bs) ∙ ap is_some e) in
    let more : rises bound 0 (filter is_load cs) ≡ true = rw adds.loads (rises_more bound 0 (filter is_load bs) last old all (omega arith)) in
    none_of (first_below bound 0 0 cs) (order_loads bound 0 0 cs ∙ ap not more)
  where
    flip : (b : Bool) → not b ≡ false → b ≡ true
    flip true e = refl
    flip false e = absurd (cc)

-- a test that no header passes that is moved or added
any_position : (p : Segment → Bool) (i : ℕ) (xs : List Segment) → is_some (position_from p i xs) ≡ list_any p xs
any_position p i [] = refl
any_position p i (s ∷ more) = go (p s) (any_position p (i + 1) more)
  where
    go : (b : Bool) → is_some (position_from p (i + 1) more) ≡ list_any p more → is_some (cond b (Some i) (position_from p (i + 1) more)) ≡ (b || list_any p more)
    go true later = refl
    go false later = later

any_added : (p : Segment → Bool) (last : Segment) (xs : List Segment) → p last ≡ false → list_any p xs ≡ false → list_any p (add_load last xs) ≡ false
any_added p last [] l h = refl
any_added p last (s ∷ more) l h = go (list_any is_load more) (is_load s) (p s) refl h (any_added p last more l)
  where
    go : (a c b : Bool) → p s ≡ b → (b || list_any p more) ≡ false → (list_any p more ≡ false → list_any p (add_load last more) ≡ false) → list_any p (cond a (s ∷ add_load last more) (cond c (s ∷ (last ∷ more)) (s ∷ add_load last more))) ≡ false
    go a c true t h on = absurd (cc)
    go true c false t h on = rw t (on h)
    go false true false t h on = rw (t, l) h
    go false false false t h on = rw t (on h)

any_with : (p q : Segment → Bool) (move : Segment → Segment) (xs : List Segment) → ((s : Segment) → q s ≡ false → p (move s) ≡ false) → list_any q xs ≡ false → list_any p (map move xs) ≡ false
any_with p q move [] each h = refl
any_with p q move (s ∷ more) each h = go (q s) refl h (any_with p q move more each)
  where
    go : (b : Bool) → q s ≡ b → (b || list_any q more) ≡ false → (list_any q more ≡ false → list_any p (map move more) ≡ false) → (p (move s) || list_any p (map move more)) ≡ false
    go true t h on = absurd (cc)
    go false t h on = rw (each s t) (on h)

pub good_ranges : (len more : ℕ) (move : Segment → Segment) (last : Segment) (xs : List Segment) → ((s : Segment) → has_bad_range len s ≡ false → has_bad_range more (move s) ≡ false) → has_bad_range more last ≡ false → position_from (has_bad_range len) 0 xs ≡ None → position_from (has_bad_range more) 0 (add_load last (map move xs)) ≡ None
good_ranges len more move last xs each l e =
    let old : list_any (has_bad_range len) xs ≡ false = sym (any_position (has_bad_range len) 0 xs) ∙ ap is_some e in
    none_of (position_from (has_bad_range more) 0 (add_load last (map move xs)))
    (any_position (has_bad_range more) 0 (add_load last (map move xs)) ∙ any_added (has_bad_range more) last (map move xs) l (any_with (has_bad_range more) (has_bad_range len) move xs each old))

-- what is found among headers of other kinds
find_added : (p : Segment → Bool) (last : Segment) (xs : List Segment) → p last ≡ false → find p (add_load last xs) ≡ find p xs
find_added p last [] l = refl
find_added p last (s ∷ more) l = go (list_any is_load more) (is_load s) (p s) refl (find_added p last more l)
  where
    go : (a c b : Bool) → p s ≡ b → find p (add_load last more) ≡ find p more → find p (cond a (s ∷ add_load last more) (cond c (s ∷ (last ∷ more)) (s ∷ add_load last more))) ≡ cond b (Some s) (find p more)
    go true c b t on = rw (t, on) refl
    go false true b t on = rw (t, l) refl
    go false false b t on = rw (t, on) refl

find_moved : (p : Segment → Bool) (move : Segment → Segment) (xs : List Segment) → ((s : Segment) → p (move s) ≡ p s) → find p (map move xs) ≡ option_map move (find p xs)
find_moved p move [] same = refl
find_moved p move (s ∷ more) same = rw (same s) (go (p s) (find_moved p move more same))
  where
    go : (b : Bool) → find p (map move more) ≡ option_map move (find p more) → cond b (Some (move s)) (find p (map move more)) ≡ option_map move (cond b (Some s) (find p more))
    go true on = refl
    go false on = on

pub dynamic_moved : (move : Segment → Segment) (last : Segment) (xs : List Segment) → LeavesLoads move → is_dynamic last ≡ false → find is_dynamic (add_load last (map move xs)) ≡ option_map move (find is_dynamic xs)
dynamic_moved move last xs leaves l = find_added is_dynamic last (map move xs) l ∙ find_moved is_dynamic move xs (λ s. rw (leaves.kinds s) refl)

pub interp_left : (move : Segment → Segment) (last : Segment) (xs : List Segment) → LeavesLoads move → is_interp last ≡ false → find is_interp (add_load last (map move xs)) ≡ find is_interp xs
interp_left move last xs leaves l = find_added is_interp last (map move xs) l ∙ (find_moved is_interp move xs (λ s. rw (leaves.kinds s) refl) ∙ go xs)
  where
    go : (xs : List Segment) → option_map move (find is_interp xs) ≡ find is_interp xs
    go [] = refl
    go (s ∷ more) = step (is_interp s) refl (go more)
      where
        step : (b : Bool) → is_interp s ≡ b → option_map move (find is_interp more) ≡ find is_interp more → option_map move (cond b (Some s) (find is_interp more)) ≡ cond b (Some s) (find is_interp more)
        step true t on = ap Some (leaves.paths s t)
        step false t on = on
