-- The objects are the program and the targets of all requests, each at its first occurrence.
use Rattle.std.proofs.Common.{◌≡◌, ◌∙◌, sym, ap, refl, ℕ, zero, suc, ◌≤◌, ◌<◌, List, [], ◌∷◌, ◌++◌, true, false, cond, Some, Result, length, take, map, max, slice_get, arith, subst, inl, inr, append_assoc, ◌==◌}
use Rattle.std.specs.List.{list_any}
use Rattle.std.proofs.lemmas.List.{append-nil, map-append}
use Rattle.std.proofs.lemmas.List.Folds.{list_any-append}
use Rattle.std.proofs.lemmas.Bool.{eq-eqb, ne_eqb, or_left, or_from, or_right, cases_lt}
use Rattle.load_model.specs.LoadList.{Object, Request, Asked, Found, Known, Brought, Loaded, count_after, WentTo, IsPhase, IsRunFrom, with_numbers, up_to}
use Rattle.load_model.proofs.Counts.{count_push}

pub with_numbers-append : (ks xs ys : List ℕ) → with_numbers ks (xs ++ ys) ≡ with_numbers (with_numbers ks xs) ys
unfolding with_numbers
with_numbers-append ks [] ys = refl
with_numbers-append ks (x ∷ xs) ys = with_numbers-append (cond (list_any (λ k. k == x) ks) ks (ks ++ x ∷ [])) xs ys

in_range : (n i : ℕ) → i < n → list_any (λ k. k == i) (up_to n) ≡ true
unfolding up_to
in_range zero i h = absurd (omega arith)
in_range (suc n) i h =
    list_any-append (λ k. k == i) (up_to n) (n ∷ []) ∙ elim (cases_lt i n) [
      | inl a ↦ or_left (list_any (λ k. k == i) (up_to n)) (list_any (λ k. k == i) (n ∷ [])) (in_range n i a)
      | inr a ↦ or_right (list_any (λ k. k == i) (up_to n)) (list_any (λ k. k == i) (n ∷ [])) (or_left (n == i) false (eq-eqb n i (omega arith)))
    ]

past_range : (n i : ℕ) → n ≤ i → list_any (λ k. k == i) (up_to n) ≡ false
unfolding up_to
past_range zero i h = refl
past_range (suc n) i h =
    list_any-append (λ k. k == i) (up_to n) (n ∷ [])
    ∙ or_from (list_any (λ k. k == i) (up_to n)) (list_any (λ k. k == i) (n ∷ [])) (past_range n i (omega arith)) (or_from (n == i) false (ne_eqb n i (λ e. omega arith)) refl)

one_number : (c t : ℕ) → t ≤ c → cond (list_any (λ k. k == t) (up_to c)) (up_to c) (up_to c ++ t ∷ []) ≡ up_to (max c (suc t))
unfolding up_to
one_number c t h =
    elim (cases_lt t c) [
      | inl a ↦ let m : max c (suc t) ≡ c = omega arith in rw (in_range c t a, m) refl
      | inr a ↦ let m : max c (suc t) ≡ suc c = omega arith in let e : t ≡ c = omega arith in rw (past_range c t a, m, e) refl
    ]

dense : (more before : List Asked) → ((m : ℕ) (a : Asked) → slice_get more m ≡ Some a → a.target ≤ count_after (before ++ take m more)) → with_numbers (up_to (count_after before)) (map (λ (a : Asked). a.target) more) ≡ up_to (count_after (before ++ more))
unfolding with_numbers
dense [] before h = ap (λ xs. up_to (count_after xs)) (sym (append-nil before))
dense (a ∷ more) before h =
    let first : a.target ≤ count_after before = subst (λ (xs : List Asked). a.target ≤ count_after xs) (append-nil before) (h 0 a refl) in
    let one = one_number (count_after before) a.target first ∙ ap up_to (sym (count_push before a)) in
    ap (λ ks. with_numbers ks (map (λ (x : Asked). x.target) more)) one
    ∙ dense more (before ++ a ∷ []) (λ m x g. subst (λ (xs : List Asked). x.target ≤ count_after xs) (sym (append_assoc before (a ∷ []) (take m more))) (h (suc m) x g))
    ∙ ap (λ xs. up_to (count_after xs)) (append_assoc before (a ∷ []) more)

module _ {X : Type 0} (answer : List Object → List Asked → Request → Result Found X) where
  target_le : (objs : List Object) (c t : ℕ) (f : Found) → WentTo objs c t f → t ≤ c
  target_le objs c t (Known i) p = let e : t ≡ i = p.0 in let b : i < c = p.1 in omega arith
  target_le objs c t (Brought o) p = let e : t ≡ c = p.0 in omega arith

  phase_order : (before after : Loaded) (opening : List (List ℕ)) → count_after before.log ≡ length before.objs → IsPhase answer before opening after → with_numbers [] (0 ∷ map (λ (a : Asked). a.target) before.log) ≡ up_to (length before.objs) → with_numbers [] (0 ∷ map (λ (a : Asked). a.target) after.log) ≡ up_to (length after.objs)
  phase_order before after opening even p h =
      let d = dense p.more before.log (λ m a g. let r = p.answered m a g in target_le after.objs (count_after (before.log ++ take m p.more)) a.target r.found r.target) in
      ap (λ xs. with_numbers [] (0 ∷ map (λ (a : Asked). a.target) xs)) p.log
      ∙ ap (λ ts. with_numbers [] (0 ∷ ts)) (map-append (λ (a : Asked). a.target) before.log p.more)
      ∙ with_numbers-append [] (0 ∷ map (λ (a : Asked). a.target) before.log) (map (λ (a : Asked). a.target) p.more)
      ∙ ap (λ ks. with_numbers ks (map (λ (a : Asked). a.target) p.more)) (h ∙ ap up_to (sym even))
      ∙ d ∙ ap (λ xs. up_to (count_after xs)) (sym p.log) ∙ ap up_to p.whole

  pub run_order : (openings : List (List (List ℕ))) (before after : Loaded) → count_after before.log ≡ length before.objs → IsRunFrom answer before openings after → with_numbers [] (0 ∷ map (λ (a : Asked). a.target) before.log) ≡ up_to (length before.objs) → with_numbers [] (0 ∷ map (λ (a : Asked). a.target) after.log) ≡ up_to (length after.objs)
  run_order [] before after even p h = rw p h
  run_order (o ∷ os) before after even p h =
      run_order os p.0 after p.1.whole p.2 (phase_order before p.0 o even p.1 h)

  pub start_order : (program : Object) → with_numbers [] (0 ∷ map (λ (a : Asked). a.target) []) ≡ up_to (length (program ∷ []))
  unfolding with_numbers up_to
  start_order program = refl
