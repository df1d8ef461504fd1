-- Lists that are made distinct in an order.
use Rattle.std.proofs.Common.{◌≡◌, ◌∙◌, ap, refl, ℕ, zero, suc, ◌<◌, List, [], ◌∷◌, ◌++◌, Bool, true, false, cond, fold, length, arith, get_or}
use Rattle.std.specs.Prelude.{Option, Some, None, AllPairs}
use Rattle.std.specs.BTreeSet.{insert_key}
use Rattle.std.specs.Cmp.{IsTotalOrder}
use Rattle.std.specs.List.{AllByRecursion, cons_option, filter_map, flat_map}
use Rattle.std.specs.List.Sorted.{IsStrictlySortedBy}
use Rattle.std.specs.Ordering.{match_ordering, ordering_reverse, ordering_then}
use Rattle.std.specs.declared.cmp.Ordering.{Ordering}
use Rattle.std.specs.declared.cmp.Ordering.TheVariants.{Less, Equal, Greater}
use Rattle.host_list.specs.Recording.{distinct_in_order}

module _ {X : Type 0} (P : X → Type 0) where
  all_weaker : (Q : X → Type 0) → ((x : X) → P x → Q x) → (xs : List X) → AllByRecursion P xs → AllByRecursion Q xs
  all_weaker Q f [] p = tt
  all_weaker Q f (x ∷ xs) p = (f x p.0, all_weaker Q f xs p.1)

  all_at : (xs : List X) (j : ℕ) (d : X) → j < length xs → AllByRecursion P xs → P (get_or xs j d)
  all_at [] j d l p = absurd (omega arith)
  all_at (x ∷ xs) zero d l p = p.0
  all_at (x ∷ xs) (suc j) d l p = all_at xs j d (omega arith) p.1

  pub all_joined : (xs ys : List X) → AllByRecursion P xs → AllByRecursion P ys → AllByRecursion P (xs ++ ys)
  all_joined [] ys p q = q
  all_joined (x ∷ xs) ys p q = (p.0, all_joined xs ys p.1 q)

  pub all_flat : {A : Type 0} (f : A → List X) → ((a : A) → AllByRecursion P (f a)) → (items : List A) → AllByRecursion P (flat_map f items)
  all_flat f h [] = tt
  all_flat f h (a ∷ items) = all_joined (f a) (flat_map f items) (h a) (all_flat f h items)

  all_put : (o : Option X) (xs : List X) → ((x : X) → o ≡ Some x → P x) → AllByRecursion P xs → AllByRecursion P (cons_option o xs)
  all_put None xs h p = p
  all_put (Some x) xs h p = (h x refl, p)

  pub all_mapped : {A : Type 0} (f : A → Option X) → ((a : A) (x : X) → f a ≡ Some x → P x) → (items : List A) → AllByRecursion P (filter_map f items)
  all_mapped f h [] = tt
  all_mapped f h (a ∷ items) = all_put (f a) (filter_map f items) (h a) (all_mapped f h items)

  pub all_chosen : (b : Bool) (xs : List X) → AllByRecursion P xs → AllByRecursion P (cond b xs [])
  all_chosen true xs p = p
  all_chosen false xs p = tt

  module _ (cmp : X → X → Ordering) where
    all_inserted_by : (o : Ordering) (k x : X) (xs rest : List X) → P k → AllByRecursion P (x ∷ xs) → AllByRecursion P rest → AllByRecursion P (match_ordering o (k ∷ x ∷ xs) (x ∷ xs) (x ∷ rest))
    all_inserted_by Less k x xs rest h p q = (h, p)
    all_inserted_by Equal k x xs rest h p q = p
    all_inserted_by Greater k x xs rest h p q = (p.0, q)

    all_inserted : (xs : List X) (k : X) → P k → AllByRecursion P xs → AllByRecursion P (insert_key cmp xs k)
    all_inserted [] k h p = (h, tt)
    all_inserted (x ∷ xs) k h p = all_inserted_by (cmp k x) k x xs (insert_key cmp xs k) h p (all_inserted xs k h p.1)

    all_folded : (had xs : List X) → AllByRecursion P had → AllByRecursion P xs → AllByRecursion P (fold (insert_key cmp) had xs)
    all_folded had [] p q = p
    all_folded had (x ∷ xs) p q = all_folded (insert_key cmp had x) xs (all_inserted had x q.0 p) q.1

    -- what is so of each is so of each that is kept
    pub all_distinct : (xs : List X) → AllByRecursion P xs → AllByRecursion P (distinct_in_order cmp xs)
    unfolding distinct_in_order
    all_distinct xs p = all_folded [] xs tt p

module _ {X : Type 0} (cmp : X → X → Ordering) (total : IsTotalOrder cmp) where
  turned : (o : Ordering) → o ≡ Greater → ordering_reverse o ≡ Less
  turned o e = ap ordering_reverse e

  sorted_by : (o : Ordering) (k x : X) (xs : List X) → cmp k x ≡ o → IsStrictlySortedBy cmp (x ∷ xs) → IsStrictlySortedBy cmp (insert_key cmp xs k) → IsStrictlySortedBy cmp (match_ordering o (k ∷ x ∷ xs) (x ∷ xs) (x ∷ insert_key cmp xs k))
  unfolding IsStrictlySortedBy
  sorted_by Less k x xs e s r = ((e, all_weaker (λ y. cmp x y ≡ Less) (λ y. cmp k y ≡ Less) (λ y h. total.trans k x y e h) xs s.0), s)
  sorted_by Equal k x xs e s r = s
  sorted_by Greater k x xs e s r = (all_inserted (λ y. cmp x y ≡ Less) cmp xs k (total.antisymm x k ∙ turned (cmp k x) e) s.0, r)

  sorted_inserted : (xs : List X) (k : X) → IsStrictlySortedBy cmp xs → IsStrictlySortedBy cmp (insert_key cmp xs k)
  unfolding IsStrictlySortedBy
  sorted_inserted [] k s = (tt, tt)
  sorted_inserted (x ∷ xs) k s = sorted_by (cmp k x) k x xs refl s (sorted_inserted xs k s.1)

  sorted_folded : (had xs : List X) → IsStrictlySortedBy cmp had → IsStrictlySortedBy cmp (fold (insert_key cmp) had xs)
  sorted_folded had [] s = s
  sorted_folded had (x ∷ xs) s = sorted_folded (insert_key cmp had x) xs (sorted_inserted had x s)

  sorted_distinct : (xs : List X) → IsStrictlySortedBy cmp (distinct_in_order cmp xs)
  unfolding distinct_in_order IsStrictlySortedBy
  sorted_distinct xs = sorted_folded [] xs tt

  pairs_of : (xs : List X) → IsStrictlySortedBy cmp xs → AllPairs (λ a b. cmp a b ≡ Less) xs
  unfolding IsStrictlySortedBy
  pairs_of [] s i j d l m = absurd (omega arith)
  pairs_of (x ∷ xs) s i zero d l m = absurd (omega arith)
  pairs_of (x ∷ xs) s zero (suc j) d l m = all_at (λ y. cmp x y ≡ Less) xs j d (omega arith) s.0
  pairs_of (x ∷ xs) s (suc i) (suc j) d l m = pairs_of xs s.1 i j d (omega arith) (omega arith)

  -- each that is kept stands before those behind it
  pub pairs_distinct : (R : X → X → Type 0) → ((a b : X) → cmp a b ≡ Less → R a b) → (xs : List X) → AllPairs R (distinct_in_order cmp xs)
  pairs_distinct R f xs i j d l m = f _ _ (pairs_of (distinct_in_order cmp xs) (sorted_distinct xs) i j d l m)

pub then_less : (o s : Ordering) → ordering_then o s ≡ Less → o ≡ Greater → ⊥
then_less Less s e h = cc
then_less Equal s e h = cc
then_less Greater s e h = cc
