-- Steps of a local list, and what it is over the targets of a load list.
use Rattle.std.proofs.Common.{◌≡◌, ◌∙◌, sym, ap, refl, ℕ, zero, suc, ◌+◌, ◌≤◌, ◌<◌, List, [], ◌∷◌, ◌++◌, Bool, true, false, cond, Some, length, take, drop, slice_get, get_or, arith, subst, ◌⊎◌, inl, inr, ◌==◌, drop-cons}
use Rattle.std.specs.List.{All, flat_map, list_any}
use Rattle.std.specs.Option.{unwrap_or}
use Rattle.std.proofs.Math.Seq.{take-suc}
use Rattle.std.proofs.lemmas.Bool.{cases_lt}
use Rattle.std.proofs.lemmas.List.{append-nil, take-append-le, take_all, length-append, length-take-le}
use Rattle.std.proofs.lemmas.List.Elements.{All-append}
use Rattle.std.proofs.lemmas.Grind.{flat_map-append}
use Rattle.std.proofs.lemmas.Option.{slice_get-get_or, get_or_from_slice_get, slice_get_within}
use Rattle.load_model.specs.LoadList.{with_numbers}
use Rattle.load_model.specs.Runs.{AreBelow}
use Rattle.load_model.proofs.Locals.{grown}
use Rattle.load_model.proofs.Order.{with_numbers-append}
use Rattle.load_model.proofs.Places.{slice_get-take, slice_get_front}
use Rattle.load_order.specs.Reaching.{AreReaches, IsReach, reached_in, targets_at}

-- a number that is not there yet is added, one that is there is not
pub added_new : (ks ns new : List ℕ) (i : ℕ) → i < length ns → list_any (λ k. k == get_or ns i 0) ks ≡ false → new ≡ ks ++ get_or ns i 0 ∷ [] → with_numbers new (drop (i + 1) ns) ≡ with_numbers ks (drop i ns)
unfolding with_numbers
added_new ks ns new i below fresh is =
    let up : i + 1 ≡ suc i = omega arith in
    let rest : List ℕ = drop (suc i) ns in
    ap (λ j. with_numbers new (drop j ns)) up
    ∙ ap (λ xs. with_numbers xs rest) (is ∙ ap (λ b. cond b ks (ks ++ get_or ns i 0 ∷ [])) (sym fresh))
    ∙ ap (with_numbers ks) (sym (drop-cons ns i 0 below))

pub added_old : (ks ns new : List ℕ) (i : ℕ) → i < length ns → list_any (λ k. k == get_or ns i 0) ks ≡ true → new ≡ ks → with_numbers new (drop (i + 1) ns) ≡ with_numbers ks (drop i ns)
unfolding with_numbers
added_old ks ns new i below there is =
    let up : i + 1 ≡ suc i = omega arith in
    let rest : List ℕ = drop (suc i) ns in
    ap (λ j. with_numbers new (drop j ns)) up
    ∙ ap (λ xs. with_numbers xs rest) (is ∙ ap (λ b. cond b ks (ks ++ get_or ns i 0 ∷ [])) (sym there))
    ∙ ap (with_numbers ks) (sym (drop-cons ns i 0 below))

-- what is added is below a bound where all numbers are
one_below : (bound n k d : ℕ) → n < bound → k < 1 → get_or (n ∷ []) k d < bound
one_below bound n zero d h b = h
one_below bound n (suc k) d h b = absurd (omega arith)

below_by : (b : Bool) (bound n : ℕ) (ks : List ℕ) → AreBelow bound ks → n < bound → AreBelow bound (cond b ks (ks ++ n ∷ []))
below_by true bound n ks h less = h
below_by false bound n ks h less = All-append (λ k. k < bound) ks (n ∷ []) h (λ k d b. one_below bound n k d less b)

pub below_all : (ns ks : List ℕ) (bound : ℕ) → AreBelow bound ks → AreBelow bound ns → AreBelow bound (with_numbers ks ns)
unfolding with_numbers
below_all [] ks bound h g = h
below_all (n ∷ ns) ks bound h g =
    below_all ns (cond (list_any (λ k. k == n) ks) ks (ks ++ n ∷ [])) bound (below_by (list_any (λ k. k == n) ks) bound n ks h (g 0 0 (omega arith))) (λ k d b. g (suc k) d (omega arith))

module _ (targets : List (List ℕ)) (root : ℕ) where
  pub at_root : root < length targets → (list : List ℕ) → list ≡ root ∷ [] → (list ≡ reached_in targets root []) × AreBelow (length targets) list
  unfolding with_numbers
  at_root less list is = (is, subst (λ xs. AreBelow (length targets) xs) (sym is) (λ k d b. one_below (length targets) root k d less b))

  pub next_reached : (at : ℕ) (list new : List ℕ) → at < length list → list ≡ reached_in targets root (take at list) → new ≡ with_numbers list (targets_at targets (get_or list at 0)) → (new ≡ reached_in targets root (take (at + 1) new)) × (at + 1 ≤ length new) × ((i : ℕ) → i ≤ at → take i new ≡ take i list)
  next_reached at list new below is step =
      let w = grown (targets_at targets (get_or list at 0)) list in
      let grown : new ≡ list ++ w.0 = step ∙ w.1 in
      let size : length new ≡ length list + length w.0 = ap length grown ∙ length-append list w.0 in
      let up : at + 1 ≡ suc at = omega arith in
      let x : ℕ = get_or list at 0 in
      let front : take (at + 1) new ≡ take at list ++ x ∷ [] = ap (λ j. take j new) up ∙ ap (take (suc at)) grown ∙ take-append-le (suc at) list w.0 (omega arith) ∙ take-suc list at 0 below in
      let one : flat_map (targets_at targets) (x ∷ []) ≡ targets_at targets x = append-nil (targets_at targets x) in
      let flat : flat_map (targets_at targets) (take at list ++ x ∷ []) ≡ flat_map (targets_at targets) (take at list) ++ targets_at targets x =
      flat_map-append (targets_at targets) (take at list) (x ∷ []) ∙ ap (λ xs. flat_map (targets_at targets) (take at list) ++ xs) one in (
        sym (ap (reached_in targets root) front ∙ ap (with_numbers (root ∷ [])) flat ∙ with_numbers-append (root ∷ []) (flat_map (targets_at targets) (take at list)) (targets_at targets x)
            ∙ ap (λ xs. with_numbers xs (targets_at targets x)) (sym is) ∙ sym step),
        (omega arith),
        λ i le. ap (take i) grown ∙ take-append-le i list w.0 (omega arith),
      )

  -- one more of the list is gone through
  pub next_brought : (at : ℕ) (list new : List ℕ) → at < length list → list ≡ reached_in targets root (take at list) → ((i : ℕ) → i ≤ at → take i new ≡ take i list) → ((i : ℕ) → i < at → i < length (reached_in targets root (take i list))) → (i : ℕ) → i < at + 1 → i < length (reached_in targets root (take i new))
  next_brought at list new below is front brought i less =
      let same : length (reached_in targets root (take i new)) ≡ length (reached_in targets root (take i list)) = ap (λ xs. length (reached_in targets root xs)) (front i (omega arith)) in
      elim (cases_lt i at) [
        | inl a ↦ let old = brought i a in omega arith
        | inr a ↦
            let e : i ≡ at = omega arith in
            let here : length (reached_in targets root (take i list)) ≡ length list = ap (λ j. length (reached_in targets root (take j list))) e ∙ ap length (sym is) in
            omega arith
      ]

  pub all_reached : (at : ℕ) (list : List ℕ) → at ≤ length list → length list ≤ at → list ≡ reached_in targets root (take at list) → ((i : ℕ) → i < at → i < length (reached_in targets root (take i list))) → IsReach targets root list
  all_reached at list within past is brought =
      record { order = sym (is ∙ ap (reached_in targets root) (take_all at list past)); brought = λ i less. brought i (omega arith) }

pub pushed : {X : Type 0} (xs : List X) (x : X) (m : ℕ) (y : X) → slice_get (xs ++ x ∷ []) m ≡ Some y → (slice_get xs m ≡ Some y) ⊎ ((m ≡ length xs) × (x ≡ y))
pushed [] x zero y h = inr (refl, cc)
pushed [] x (suc m) y h = cc
pushed (z ∷ xs) x zero y h = inl h
pushed (z ∷ xs) x (suc m) y h =
    elim (pushed xs x m y h) [
      | inl e ↦ inl e
      | inr e ↦ inr (ap suc e.0, e.1)
    ]

pub found_targets : (targets : List (List ℕ)) (k : ℕ) (ts : List ℕ) → k < length targets → ts ≡ get_or targets k ts → targets_at targets k ≡ ts
found_targets targets k ts less is = ap (λ o. unwrap_or o []) (slice_get-get_or targets k ts less) ∙ sym is

-- the targets of an object are below where all are
pub targets_below : (targets : List (List ℕ)) (k : ℕ) (ts : List ℕ) (bound : ℕ) → k < length targets → ts ≡ get_or targets k ts → All (AreBelow bound) targets → AreBelow bound ts
targets_below targets k ts bound less is h = subst (λ xs. AreBelow bound xs) (sym is) (h k ts less)

module _ (targets : List (List ℕ)) (roots : List ℕ) (lists : List (List ℕ)) (i : ℕ) (new : List (List ℕ)) (list : List ℕ) (less : i < length roots) (so_far : AreReaches targets (take i roots) lists) (reach : IsReach targets (get_or roots i 0) list) (below : AreBelow (length targets) list) where
  count_is : length lists ≡ i
  count_is = so_far.count ∙ length-take-le i roots (omega arith)

  one_reach : (k root : ℕ) (ks : List ℕ) → slice_get (take (i + 1) roots) k ≡ Some root → (slice_get lists k ≡ Some ks) ⊎ ((k ≡ length lists) × (list ≡ ks)) → IsReach targets root ks
  one_reach k root ks g (inl h) =
      let within : k < length lists = slice_get_within lists k ks h in
      let size = count_is in
      let there = slice_get-take (i + 1) roots k root g in
      so_far.each k root ks (slice_get_front i roots k root (omega arith) there.1) h
  one_reach k root ks g (inr h) =
      let there = slice_get-take (i + 1) roots k root g in
      let at : k ≡ i = h.0 ∙ count_is in
      let same : get_or roots i 0 ≡ root = ap (λ j. get_or roots j 0) (sym at) ∙ get_or_from_slice_get roots k root 0 there.1 in
      subst (λ r. IsReach targets r ks) same (subst (λ xs. IsReach targets (get_or roots i 0) xs) h.1 reach)

  one_list : (k : ℕ) (d : List ℕ) → k < 1 → AreBelow (length targets) (get_or (list ∷ []) k d)
  one_list zero d b = below
  one_list (suc k) d b = absurd (omega arith)

  pub one_more : new ≡ lists ++ list ∷ [] → AreReaches targets (take (i + 1) roots) new
  one_more is =
      record {
        count = ap length is ∙ length-append lists (list ∷ []) ∙ let size = count_is in let size_more = length-take-le (i + 1) roots (omega arith) in let all : length lists + 1 ≡ length (take (i + 1) roots) = omega arith in all;
        below = subst (λ xs. All (AreBelow (length targets)) xs) (sym is) (All-append (AreBelow (length targets)) lists (list ∷ []) so_far.below one_list);
        each = λ k root ks g h. one_reach k root ks g (pushed lists list k ks (ap (λ xs. slice_get xs k) (sym is) ∙ h));
      }
