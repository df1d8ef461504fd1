-- The addresses of the new segment, and one dynamic table as before.
use Rattle.std.proofs.Common.{◌≡◌, ℕ, suc, ◌+◌, ◌<◌, ◌≤◌, ◌==◌, ◌||◌, Bool, true, false, cond, not, List, [], ◌∷◌, ◌++◌, Option, Some, None, is_some, length, drop, map, refl, ap, sym, ◌∙◌, arith}
use Rattle.std.specs.Prelude.{nat_lt}
use Rattle.std.specs.List.{All, filter, find, list_any, position_from}
use Rattle.std.specs.Option.{option_and_then, option_map}
use Rattle.std.proofs.lemmas.Bool.Decides.{nat_tests}
use Rattle.std.proofs.lemmas.List.Elements.{All-head, All-tail, All-weaker}
use Rattle.byte_view.specs.declared.flaws.TheConstants.{DYNAMIC_PLACE, TWO_DYNAMIC}
use Rattle.byte_view.specs.Checks.{flaw, flaw_at}
use Rattle.byte_view.specs.DynamicFlaws.{begins_at, misplaced, place_after, second_place, two_dynamic}
use Rattle.byte_view.specs.Headers.{is_dynamic, is_load}
use Rattle.byte_view.specs.Memory.{backs, file_range, range_in}
use Rattle.byte_view.specs.declared.segments.Segment.{Segment}
use Rattle.two_files.specs.Alike.{KeepsRanges}
use Rattle.two_files.specs.NewHeaders.{AddsLoad, LeavesLoads, add_load}
use Rattle.two_files.proofs.NewHeaders.{find_loads}

find_back : (p : Segment → Bool) (xs : List Segment) (y : Segment) → All (λ s. p s ≡ false) xs → p y ≡ true → find p (xs ++ y ∷ []) ≡ Some y
find_back p [] y all h = rw h refl
find_back p (x ∷ xs) y all h = rw (All-head (λ s. p s ≡ false) x xs all) (find_back p xs y (All-tail (λ s. p s ≡ false) x xs all) h)

below : (addr len top : ℕ) (xs : List Segment) → 0 < len → top ≤ addr → All (λ s. s.vaddr + s.filesz ≤ top) xs → All (λ s. backs addr len s ≡ false) xs
below addr len top xs some low all = All-weaker (λ s. s.vaddr + s.filesz ≤ top) (λ s. backs addr len s ≡ false) (λ s h. one s h) xs all
  where
    one : (s : Segment) → s.vaddr + s.filesz ≤ top → backs addr len s ≡ false
    one s h = grind (arith, nat_tests)

-- the new segment backs its own addresses
pub range_new : (bs cs : List Segment) (last : Segment) (addr len : ℕ) → AddsLoad bs cs last → is_load last ≡ true → All (λ s. s.vaddr + s.filesz ≤ last.vaddr) (filter is_load bs) → last.vaddr ≤ addr → 0 < len → addr + len ≤ last.vaddr + last.filesz → range_in cs addr len ≡ Some (file_range addr len last)
unfolding range_in
range_new bs cs last addr len adds load all low some high =
    let no : (len == 0) ≡ false = grind (arith, nat_tests) in
    let it : backs addr len last ≡ true = grind (arith, nat_tests) in
    let there : find (backs addr len) (filter is_load cs) ≡ Some last = rw adds.loads (find_back (backs addr len) (filter is_load bs) last (below addr len last.vaddr (filter is_load bs) some low all) it) in
    let found : find (backs addr len) cs ≡ Some last = sym (find_loads (backs addr len) cs (loaded addr len)) ∙ there in
    rw (no, found) refl
  where
    loaded : (addr len : ℕ) (s : Segment) → backs addr len s ≡ true → is_load s ≡ true
    loaded addr len s h = grind (arith, nat_tests)

-- how many headers pass a test
some_passes : (p : Segment → Bool) (i : ℕ) (xs : List Segment) → is_some (position_from p i xs) ≡ nat_lt 0 (length (filter p xs))
some_passes p i [] = refl
some_passes p i (s ∷ more) = go (p s) (some_passes p (i + 1) more)
  where
    go : (b : Bool) → is_some (position_from p (i + 1) more) ≡ nat_lt 0 (length (filter p more)) → is_some (cond b (Some i) (position_from p (i + 1) more)) ≡ nat_lt 0 (length (cond b (s ∷ filter p more) (filter p more)))
    go true later = grind (arith, nat_tests)
    go false later = later

moved_position : (p : Segment → Bool) (i : ℕ) (xs : List Segment) → position_from p (i + 1) xs ≡ option_map suc (position_from p i xs)
moved_position p i [] = refl
moved_position p i (s ∷ more) = go (p s) (moved_position p (i + 1) more)
  where
    go : (b : Bool) → position_from p (i + 1 + 1) more ≡ option_map suc (position_from p (i + 1) more) → cond b (Some (i + 1)) (position_from p (i + 1 + 1) more) ≡ option_map suc (cond b (Some i) (position_from p (i + 1) more))
    go true later = ap Some (omega arith)
    go false later = later

some_mapped : (f : ℕ → ℕ) (o : Option ℕ) → is_some (option_map f o) ≡ is_some o
some_mapped f None = refl
some_mapped f (Some x) = refl

two_pass : (p : Segment → Bool) (xs : List Segment) → is_some (second_place p xs) ≡ nat_lt 1 (length (filter p xs))
two_pass p [] = refl
two_pass p (s ∷ more) = go (p s) (two_pass p more)
  where
    later_place : (o : Option ℕ) → is_some (option_and_then (place_after p (s ∷ more)) (option_map suc o)) ≡ is_some (option_and_then (place_after p more) o)
    later_place None = refl
    later_place (Some i) =
        let up : suc i + 1 ≡ suc (i + 1) = omega arith in
        let same : drop (suc i + 1) (s ∷ more) ≡ drop (i + 1) more = rw up refl in
        rw (some_mapped (λ j. suc i + 1 + j) (position_from p 0 (drop (suc i + 1) (s ∷ more))), same, some_mapped (λ j. i + 1 + j) (position_from p 0 (drop (i + 1) more))) refl

    go : (b : Bool) → is_some (second_place p more) ≡ nat_lt 1 (length (filter p more)) → is_some (option_and_then (place_after p (s ∷ more)) (cond b (Some 0) (position_from p 1 more))) ≡ nat_lt 1 (length (cond b (s ∷ filter p more) (filter p more)))
    go true later =
        some_mapped (λ j. 0 + 1 + j) (position_from p 0 more) ∙ some_passes p 0 more ∙ grind (arith, nat_tests)
    go false later = ap (λ o. is_some (option_and_then (place_after p (s ∷ more)) o)) (moved_position p 0 more) ∙ later_place (position_from p 0 more) ∙ later

count_added : (p : Segment → Bool) (last : Segment) (xs : List Segment) → p last ≡ false → filter p (add_load last xs) ≡ filter p xs
count_added p last [] l = refl
count_added p last (s ∷ more) l = go (list_any is_load more) (is_load s) (p s) refl (count_added p last more l)
  where
    go : (a c b : Bool) → p s ≡ b → filter p (add_load last more) ≡ filter p more → filter p (cond a (s ∷ add_load last more) (cond c (s ∷ (last ∷ more)) (s ∷ add_load last more))) ≡ cond b (s ∷ filter p more) (filter p more)
    go true c b t on = rw (t, on) refl
    go false true b t on = rw (t, l) refl
    go false false b t on = rw (t, on) refl

count_moved : (p : Segment → Bool) (move : Segment → Segment) (xs : List Segment) → ((s : Segment) → p (move s) ≡ p s) → length (filter p (map move xs)) ≡ length (filter p xs)
count_moved p move [] same = refl
count_moved p move (s ∷ more) same = rw (same s) (go (p s) (count_moved p move more same))
  where
    go : (b : Bool) → length (filter p (map move more)) ≡ length (filter p more) → length (cond b (move s ∷ filter p (map move more)) (filter p (map move more))) ≡ length (cond b (s ∷ filter p more) (filter p more))
    go true on = ap suc on
    go false on = on

none_two : (xs : List Segment) → two_dynamic xs ≡ None → second_place is_dynamic xs ≡ None
none_two xs e = go (second_place is_dynamic xs) e
  where
    go : (o : Option ℕ) → flaw_at TWO_DYNAMIC o ≡ None → o ≡ None
    go None e = refl
    go (Some i) e = absurd (cc)

no_place : (o : Option ℕ) → is_some o ≡ false → o ≡ None
no_place None e = refl
no_place (Some i) e = absurd (cc)

pub one_dynamic : (move : Segment → Segment) (last : Segment) (xs : List Segment) → LeavesLoads move → is_dynamic last ≡ false → two_dynamic xs ≡ None → two_dynamic (add_load last (map move xs)) ≡ None
one_dynamic move last xs leaves l e =
    let old : nat_lt 1 (length (filter is_dynamic xs)) ≡ false = sym (two_pass is_dynamic xs) ∙ ap is_some (none_two xs e) in
    let same : length (filter is_dynamic (add_load last (map move xs))) ≡ length (filter is_dynamic xs) = ap length (count_added is_dynamic last (map move xs) l) ∙ count_moved is_dynamic move xs (λ s. rw (leaves.kinds s) refl) in
    let none : second_place is_dynamic (add_load last (map move xs)) ≡ None = no_place (second_place is_dynamic (add_load last (map move xs))) (two_pass is_dynamic (add_load last (map move xs)) ∙ (ap (nat_lt 1) same ∙ old)) in
    rw none refl

-- a dynamic table that was placed well is so still
begins_some : (place : ℕ) (o : Option (ℕ × ℕ)) → begins_at place o ≡ true → is_some o ≡ true
begins_some place None h = absurd (cc)
begins_some place (Some range) h = refl

pub placed_still : (bs cs : List Segment) (s : Segment) → KeepsRanges bs cs → misplaced bs s ≡ None → misplaced cs s ≡ None
placed_still bs cs s keeps e = go (nat_lt s.filesz 16) (begins_at s.offset (range_in bs s.vaddr s.filesz)) refl e
  where
    go : (a b : Bool) → begins_at s.offset (range_in bs s.vaddr s.filesz) ≡ b → cond (a || not b) (Some (flaw DYNAMIC_PLACE 0 0)) None ≡ None → cond (a || not (begins_at s.offset (range_in cs s.vaddr s.filesz))) (Some (flaw DYNAMIC_PLACE 0 0)) None ≡ None
    go true b t e = absurd (cc)
    go false false t e = absurd (cc)
    go false true t e = rw (keeps.keeps s.vaddr s.filesz (begins_some s.offset (range_in bs s.vaddr s.filesz) t), t) refl
