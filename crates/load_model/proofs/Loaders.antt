-- Each object but the program has a loader with a smaller number.
use Rattle.std.proofs.Common.{◌≡◌, ◌∙◌, ap, refl, ℕ, zero, suc, ◌<◌, List, [], ◌∷◌, cond, Some, Result, length, take, slice_get, arith}
use Rattle.std.proofs.lemmas.Bool.{eq-eqb, ne_eqb}
use Rattle.std.proofs.lemmas.List.{take_all}
use Rattle.load_model.specs.LoadList.{Object, Request, Asked, Found, count_after}
use Rattle.load_model.specs.Candidates.{loader_in}
use Rattle.load_model.proofs.Places.{slice_get_front}
use Rattle.load_model.proofs.History.{IsHistory, target_count, brought_by}

first_asker : (log : List Asked) (j i : ℕ) (a : Asked) → slice_get log i ≡ Some a → a.target ≡ j → ((k : ℕ) (b : Asked) → k < i → slice_get log k ≡ Some b → b.target ≡ j → ⊥) → loader_in log j ≡ a.request.by
unfolding loader_in
first_asker [] j i a g at none = cc
first_asker (x ∷ log) j zero a g at none =
    let same : x ≡ a = cc in
    ap (λ t. cond t x.request.by (loader_in log j)) (eq-eqb x.target j (ap (λ (y : Asked). y.target) same ∙ at)) ∙ ap (λ (y : Asked). y.request.by) same
first_asker (x ∷ log) j (suc i) a g at none =
    ap (λ t. cond t x.request.by (loader_in log j)) (ne_eqb x.target j (λ e. none 0 x (omega arith) refl e))
    ∙ first_asker log j i a g at (λ k b less h e. none (suc k) b (omega arith) h e)

module _ {X : Type 0} (answer : List Object → List Asked → Request → Result Found X) where
  pub small_loader : (objs : List Object) (log : List Asked) → IsHistory answer objs log → (j : ℕ) → 0 < j → j < length objs → loader_in log j < j
  small_loader objs log hist j some below =
      let all : take (length log) log ≡ log = take_all (length log) log (omega arith) in
      let whole : count_after (take (length log) log) ≡ length objs = ap count_after all ∙ hist.whole in
      let w = brought_by answer objs log hist (length log) j (omega arith) some (omega arith) in
      let count : count_after (take w.0 log) ≡ j = w.5 in
      let asker = (hist.answered w.0 w.1 w.3).asker in
      let is : loader_in log j ≡ w.1.request.by = first_asker log j w.0 w.1 w.3 w.4 (λ k b less h e.
      let early = target_count (take w.0 log) k b (slice_get_front w.0 log k b less h) in omega arith) in
      omega arith
