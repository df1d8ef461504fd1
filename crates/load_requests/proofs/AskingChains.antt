-- The candidates of a request, where two tellings of the loaders agree on the objects.
use Rattle.std.proofs.Common.{◌≡◌, ◌∙◌, sym, ap, refl, ℕ, zero, suc, ◌<◌, List, [], ◌∷◌, ◌++◌, false, cond, ◌==◌, Option, Some, None, length, slice_get, arith}
use Rattle.std.specs.List.{flat_map}
use Rattle.std.proofs.lemmas.Bool.{ne_eqb}
use Rattle.path_text.specs.Path.{begins_at_root, path_of}
use Rattle.load_model.specs.Candidates.{candidate_at, candidate_in, candidates, loader_chain, items_by, listed_items, own_items, rpath_items, search_items}
use Rattle.load_model.specs.LoadList.{Object, Request}
use Rattle.load_model.specs.declared.setting.Setting.{Setting}

module _ (f g : ℕ → ℕ) (bound : ℕ) (same : (j : ℕ) → 0 < j → j < bound → f j ≡ g j) (smaller : (j : ℕ) → 0 < j → j < bound → f j < bound) where
  chain_same : (most j : ℕ) → j < bound → loader_chain most f j ≡ loader_chain most g j
  unfolding loader_chain
  chain_same zero j below = refl
  chain_same (suc most) zero below = refl
  chain_same (suc most) (suc j) below =
      let some : (suc j == 0) ≡ false = ne_eqb (suc j) 0 (λ e. omega (arith, e)) in
      ap (λ b. cond b (0 ∷ []) (suc j ∷ loader_chain most f (f (suc j)))) some
      ∙ ap (λ ks. suc j ∷ ks) (chain_same most (f (suc j)) (smaller (suc j) (omega arith) below) ∙ ap (loader_chain most g) (same (suc j) (omega arith) below))
      ∙ sym (ap (λ b. cond b (0 ∷ []) (suc j ∷ loader_chain most g (g (suc j)))) some)

  items_same : (setting : Setting) (objs : List Object) (j : ℕ) (o : Object) (runpath : Option (List ℕ)) → j < bound → items_by setting objs f j o runpath ≡ items_by setting objs g j o runpath
  items_same setting objs j o None below = ap (λ ks. flat_map (λ k. rpath_items setting (slice_get objs k)) ks) (chain_same (length objs) j below)
  items_same setting objs j o (Some text) below = refl

  own_same : (setting : Setting) (objs : List Object) (j : ℕ) (o : Option Object) → j < bound → own_items setting objs f j o ≡ own_items setting objs g j o
  own_same setting objs j None below = refl
  own_same setting objs j (Some o) below = items_same setting objs j o o.face.runpath below

  pub candidates_same : (setting : Setting) (objs : List Object) (r : Request) → r.by < bound → candidates setting objs f r ≡ candidates setting objs g r
  unfolding candidates search_items
  candidates_same setting objs r below =
      ap (λ items. cond (begins_at_root r.name) (candidate_at (path_of r.name)) (flat_map (candidate_in r.name) (items ++ listed_items setting))) (own_same setting objs r.by (slice_get objs r.by) below)
