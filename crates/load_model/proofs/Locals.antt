-- At most one list is the local list of a root.
use Rattle.std.proofs.Common.{◌≡◌, ◌∙◌, sym, ap, refl, ℕ, zero, suc, ◌≤◌, ◌<◌, List, [], ◌∷◌, ◌++◌, Bool, true, false, cond, length, take, drop, arith, append_assoc, ◌==◌}
use Rattle.std.specs.List.{flat_map, list_any}
use Rattle.std.proofs.lemmas.List.{append-nil, take-append-drop, take-append-le, take_all}
use Rattle.std.proofs.lemmas.Grind.{flat_map-append}
use Rattle.load_model.specs.LoadList.{Loaded, with_numbers}
use Rattle.load_model.specs.Runs.{need_targets, reached, IsLocal}
use Rattle.load_model.proofs.Order.{with_numbers-append}

-- what was there stays in front
grown_by : (b : Bool) (ks : List ℕ) (n : ℕ) → (more : List ℕ) × (cond b ks (ks ++ n ∷ []) ≡ ks ++ more)
grown_by true ks n = ([], sym (append-nil ks))
grown_by false ks n = (n ∷ [], refl)

pub grown : (ns ks : List ℕ) → (more : List ℕ) × (with_numbers ks ns ≡ ks ++ more)
unfolding with_numbers
grown [] ks = ([], sym (append-nil ks))
grown (n ∷ ns) ks =
    let one = grown_by (list_any (λ k. k == n) ks) ks n in
    let rest = grown ns (cond (list_any (λ k. k == n) ks) ks (ks ++ n ∷ [])) in
    (one.0 ++ rest.0, rest.1 ∙ ap (λ xs. xs ++ rest.0) one.1 ∙ append_assoc ks one.0 rest.0)

module _ (s : Loaded) (root : ℕ) where
  -- what is reached from the first ones begins the list
  early : (ks : List ℕ) (i : ℕ) → IsLocal s root ks → (more : List ℕ) × (ks ≡ reached s root (take i ks) ++ more)
  early ks i p =
      let cut : flat_map (need_targets s) (take i ks ++ drop i ks) ≡ flat_map (need_targets s) (take i ks) ++ flat_map (need_targets s) (drop i ks) = flat_map-append (need_targets s) (take i ks) (drop i ks) in
      let w = grown (flat_map (need_targets s) (drop i ks)) (reached s root (take i ks)) in (
        w.0,
        sym p.order ∙ ap (reached s root) (sym (take-append-drop i ks)) ∙ ap (with_numbers (root ∷ [])) cut
            ∙ with_numbers-append (root ∷ []) (flat_map (need_targets s) (take i ks)) (flat_map (need_targets s) (drop i ks)) ∙ w.1,
      )

  next_one : (ks : List ℕ) (i : ℕ) → IsLocal s root ks → i < length ks → take (suc i) ks ≡ take (suc i) (reached s root (take i ks))
  next_one ks i p below =
      let w = early ks i p in
      ap (take (suc i)) w.1 ∙ take-append-le (suc i) (reached s root (take i ks)) w.0 (p.brought i below)

  same_front : (ks ls : List ℕ) → IsLocal s root ks → IsLocal s root ls → (i : ℕ) → i ≤ length ks → i ≤ length ls → take i ks ≡ take i ls
  same_front ks ls p q zero a b = refl
  same_front ks ls p q (suc i) a b =
      let rest : take i ks ≡ take i ls = same_front ks ls p q i (omega arith) (omega arith) in
      next_one ks i p (omega arith) ∙ ap (λ xs. take (suc i) (reached s root xs)) rest ∙ sym (next_one ls i q (omega arith))

  not_longer : (ks ls : List ℕ) → IsLocal s root ks → IsLocal s root ls → length ks < length ls → ⊥
  not_longer ks ls p q less =
      let n : ℕ = length ks in
      let front : take n ls ≡ ks = sym (same_front ks ls p q n (omega arith) (omega arith)) ∙ take_all n ks (omega arith) in
      let size : length (reached s root (take n ls)) ≡ n = ap (λ xs. length (reached s root xs)) front ∙ ap length p.order in
      let past = q.brought n less in
      omega arith

  pub one_local : (ks ls : List ℕ) → IsLocal s root ks → IsLocal s root ls → ks ≡ ls
  one_local ks ls p q =
      let no_more : length ks < length ls → ⊥ = not_longer ks ls p q in
      let no_less : length ls < length ks → ⊥ = not_longer ls ks q p in
      let size : length ks ≡ length ls = omega arith in
      sym (take_all (length ks) ks (omega arith)) ∙ same_front ks ls p q (length ks) (omega arith) (omega arith) ∙ take_all (length ks) ls (omega arith)
