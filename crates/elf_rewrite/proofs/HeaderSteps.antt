-- One header more, and the new one behind the last LOAD
use Rattle.std.proofs.Common.{◌≡◌, ℕ, suc, ◌+◌, ◌-◌, ◌==◌, ◌&&◌, ◌||◌, Bool, true, false, cond, List, [], ◌∷◌, ◌++◌, length, map, drop, refl, sym, ap, ◌∙◌, arith, add-one, append_assoc}
use Rattle.std.specs.List.{filter, list_any}
use Rattle.std.proofs.lemmas.Bool.Decides.{nat_tests}
use Rattle.byte_view.specs.Headers.{is_load}
use Rattle.byte_view.specs.declared.segments.Segment.{Segment}
use Rattle.elf_rewrite.specs.Rewriting.{headers_by, moved_by, new_segment}
use Rattle.elf_rewrite.specs.declared.layout.Layout.{Layout}

abbrev pub loads_in : List Segment → ℕ
loads_in xs = length (filter is_load xs)

-- the headers that are still to be written where so many LOADs are left
abbrev pub rest_of : Layout → ℕ → List Segment → List Segment
rest_of l left xs = cond (left == 0) (map (λ s. moved_by l s) xs) (headers_by l xs)

kind_moved : (l : Layout) (s : Segment) → is_load (moved_by l s) ≡ is_load s
kind_moved l s = grind (arith, nat_tests)

pub any_moved : (l : Layout) (xs : List Segment) → list_any is_load (map (λ s. moved_by l s) xs) ≡ list_any is_load xs
any_moved l [] = refl
any_moved l (x ∷ xs) = rw (kind_moved l x, any_moved l xs) refl

counted : (xs : List Segment) → list_any is_load xs ≡ cond (loads_in xs == 0) false true
counted [] = refl
counted (x ∷ xs) = go (is_load x) refl (counted xs)
  where
    go : (b : Bool) → is_load x ≡ b → list_any is_load xs ≡ cond (loads_in xs == 0) false true → (b || list_any is_load xs) ≡ cond (length (cond b (x ∷ filter is_load xs) (filter is_load xs)) == 0) false true
    go true e on = let no : (suc (loads_in xs) == 0) ≡ false = grind (arith, nat_tests) in rw no refl
    go false e on = on

-- without LOADs nothing is added
unloaded : (l : Layout) (xs : List Segment) → list_any is_load xs ≡ false → headers_by l xs ≡ map (λ s. moved_by l s) xs
unloaded l [] e = refl
unloaded l (x ∷ xs) e = go (is_load x) (list_any is_load xs) refl refl e (unloaded l xs)
  where
    go : (a b : Bool) → is_load x ≡ a → list_any is_load xs ≡ b → (a || b) ≡ false → (list_any is_load xs ≡ false → headers_by l xs ≡ map (λ s. moved_by l s) xs) → headers_by l (x ∷ xs) ≡ map (λ s. moved_by l s) (x ∷ xs)
    go true b ea eb e on = absurd (cc)
    go false true ea eb e on = absurd (cc)
    go false false ea eb e on = rw (any_moved l xs, eb, kind_moved l x, ea, on eb) refl

pub begins : (l : Layout) (xs : List Segment) (left : ℕ) → left ≡ loads_in xs → rest_of l left xs ≡ headers_by l xs
begins l xs left e = go (loads_in xs == 0) refl
  where
    go : (b : Bool) → (loads_in xs == 0) ≡ b → rest_of l left xs ≡ headers_by l xs
    go true h = rw (e, h) (sym (unloaded l xs (counted xs ∙ rw h refl)))
    go false h = rw (e, h) refl

pub header_step : (l : Layout) (s : Segment) (more : List Segment) (left after : ℕ) → left ≡ loads_in (s ∷ more) → after ≡ left - cond (is_load s) 1 0 → rest_of l left (s ∷ more) ≡ (moved_by l s ∷ cond (is_load s && (left == 1)) (new_segment l ∷ []) []) ++ rest_of l after more
header_step l s more left after e ea = go (is_load s) (loads_in more == 0) refl refl
  where
    go : (a b : Bool) → is_load s ≡ a → (loads_in more == 0) ≡ b → rest_of l left (s ∷ more) ≡ (moved_by l s ∷ cond (is_load s && (left == 1)) (new_segment l ∷ []) []) ++ rest_of l after more
    go true true h n =
        let none : loads_in more ≡ 0 = grind (arith, nat_tests) in
        let one : left ≡ 1 = e ∙ rw (h, none) refl in
        let zero' : after ≡ 0 = ea ∙ rw (h, one) refl in
        let no : list_any is_load more ≡ false = counted more ∙ rw n refl in
        rw (one, zero', h, any_moved l more, no, kind_moved l s, h) refl
    go true false h n =
        let some : list_any is_load more ≡ true = counted more ∙ rw n refl in
        let up : left ≡ suc (loads_in more) = e ∙ rw h refl in
        let down : after ≡ loads_in more = ea ∙ rw h (omega arith) in
        let not_none : (left == 0) ≡ false = grind (arith, nat_tests) in
        let not_one : (left == 1) ≡ false = grind (arith, nat_tests) in
        rw (not_none, not_one, down, n, h, any_moved l more, some) refl
    go false true h n =
        let none : loads_in more ≡ 0 = grind (arith, nat_tests) in
        let here : left ≡ 0 = e ∙ rw (h, none) refl in
        let there : after ≡ 0 = ea ∙ rw (h, here) refl in
        rw (here, there, h) refl
    go false false h n =
        let same : left ≡ loads_in more = e ∙ rw h refl in
        let down : after ≡ loads_in more = ea ∙ rw h (omega arith) in
        let some : list_any is_load more ≡ true = counted more ∙ rw n refl in
        rw (same, down, n, h, any_moved l more, some) refl

-- the headers so far with one more, and those that are left
pub header_at : (l : Layout) (xs : List Segment) (i : ℕ) (s : Segment) (out new whole : List Segment) (left after : ℕ) → drop i xs ≡ s ∷ drop (suc i) xs → new ≡ out ++ (moved_by l s ∷ cond (is_load s && (left == 1)) (new_segment l ∷ []) []) → after ≡ left - cond (is_load s) 1 0 → (out ++ rest_of l left (drop i xs) ≡ whole) × (left ≡ loads_in (drop i xs)) → (new ++ rest_of l after (drop (i + 1) xs) ≡ whole) × (after ≡ loads_in (drop (i + 1) xs))
header_at l xs i s out new whole left after at added less inv =
    let more = drop (suc i) xs in
    let count : left ≡ loads_in (s ∷ more) = inv.1 ∙ ap loads_in at in
    let step = header_step l s more left after count less in
    let both : out ++ rest_of l left (s ∷ more) ≡ whole = ap (λ ys. out ++ rest_of l left ys) (sym at) ∙ inv.0 in (
      rw (add-one, added) (append_assoc out (moved_by l s ∷ cond (is_load s && (left == 1)) (new_segment l ∷ []) []) (rest_of l after more) ∙ (ap (λ ys. out ++ ys) (sym step) ∙ both)),
      rw add-one (less ∙ rw count (fewer s more)),
    )
  where
    fewer : (s : Segment) (more : List Segment) → loads_in (s ∷ more) - cond (is_load s) 1 0 ≡ loads_in more
    fewer s more = go (is_load s)
      where
        go : (b : Bool) → length (cond b (s ∷ filter is_load more) (filter is_load more)) - cond b 1 0 ≡ loads_in more
        go true = omega arith
        go false = omega arith

pub ends : (l : Layout) (left : ℕ) → rest_of l left [] ≡ []
ends l left = go (left == 0)
  where
    go : (b : Bool) → cond b (map (λ s. moved_by l s) []) (headers_by l []) ≡ []
    go true = refl
    go false = refl
