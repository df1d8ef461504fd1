-- Names by their keys, and what is learnt of a name.
use Rattle.std.proofs.Common.{◌≡◌, ◌∙◌, sym, ap, refl, ℕ, ◌<◌, ◌⊎◌, List, [], ◌∷◌, Bool, true, false, true≢false, cond, ◌||◌, Option, Some, None, if◌then◌else◌, map, arith, inl, inr, min}
use Rattle.std.specs.Map.{lookup}
use Rattle.std.specs.Option.{option_map_or}
use Rattle.std.specs.Str.{bytes_eq}
use Rattle.std.proofs.lemmas.Bool.{cases_Bool}
use Rattle.std.proofs.lemmas.Cmp.{nat_list_eq_equiv}
use Rattle.indexmap.specs.IndexMap.{insert_entry}
use Rattle.load_model.proofs.TwoWorlds.{same_bytes}
use Rattle.load_requests.specs.Known.{IsLearnt, IsMadeFirst, first_known}

-- ---- names by their keys

module _ {K : Type 0} (f : K → List ℕ) where
  -- the names of these keys
  abbrev named : List (K × ℕ) → List (List ℕ × ℕ)
  named es = map (λ e. (f e.0, e.1)) es

  abbrev same_key : K → K → Bool
  same_key x y = bytes_eq (f x) (f y)

  pub lookup_named : (test : List ℕ → Bool) (es : List (K × ℕ)) → lookup test (named es) ≡ lookup (λ k. test (f k)) es
  lookup_named test [] = refl
  lookup_named test (e ∷ es) = ap (λ r. cond (test (f e.0)) (Some e.1) r) (lookup_named test es)

  -- the entry of this key comes first, or another
  put_by : (same : Bool) (e : K × ℕ) (es rest : List (K × ℕ)) (k : K) (v : ℕ) (n : List ℕ) → same_key k e.0 ≡ same → first_known n (named rest) ≡ cond (bytes_eq (f k) n) (Some v) (first_known n (named es))
      → first_known n (named (if same then (e.0, v) ∷ es else e ∷ rest)) ≡ cond (bytes_eq (f k) n) (Some v) (first_known n (named (e ∷ es)))
  put_by true e es rest k v n same h =
      let here : bytes_eq n (f e.0) ≡ bytes_eq (f k) n = nat_list_eq_equiv.symm n (f e.0) ∙ sym (nat_list_eq_equiv.congr (f k) (f e.0) n same) in
      ap (λ b. cond b (Some v) (first_known n (named es))) here ∙ twice (bytes_eq (f k) n) (bytes_eq n (f e.0)) (sym here)
    where
      twice : (b c : Bool) → b ≡ c → cond b (Some v) (first_known n (named es)) ≡ cond b (Some v) (cond c (Some e.1) (first_known n (named es)))
      twice true c q = refl
      twice false true q = absurd (true≢false (sym q))
      twice false false q = refl
  put_by false e es rest k v n same h =
      ap (λ r. cond (bytes_eq n (f e.0)) (Some e.1) r) h ∙ elim (cases_Bool (bytes_eq n (f e.0))) [
        | inl t ↦
            let not : bytes_eq (f k) n ≡ false = nat_list_eq_equiv.symm (f k) n ∙ nat_list_eq_equiv.congr n (f e.0) (f k) t ∙ nat_list_eq_equiv.symm (f e.0) (f k) ∙ same in
            swap (bytes_eq n (f e.0)) (bytes_eq (f k) n) (inl not)
        | inr u ↦ swap (bytes_eq n (f e.0)) (bytes_eq (f k) n) (inr u)
      ]
    where
      swap : (b c : Bool) → (c ≡ false) ⊎ (b ≡ false) → cond b (Some e.1) (cond c (Some v) (first_known n (named es))) ≡ cond c (Some v) (cond b (Some e.1) (first_known n (named es)))
      swap false c h = refl
      swap true false h = refl
      swap true true h = absurd (elim h [ inl q ↦ true≢false q | inr q ↦ true≢false q ])

  pub put_first : (es : List (K × ℕ)) (k : K) (v : ℕ) → IsMadeFirst (f k) v (named es) (named (insert_entry same_key es k v))
  put_first [] k v n = ap (λ b. cond b (Some v) None) (nat_list_eq_equiv.symm n (f k))
  put_first (e ∷ es) k v n = put_by (same_key k e.0) e es (insert_entry same_key es k v) k v n refl (put_first es k v n)

  -- the same where the names are known by other terms
  pub put_known : (es after : List (K × ℕ)) (k : K) (v : ℕ) (before : List (List ℕ × ℕ)) (name : List ℕ) → named es ≡ before → f k ≡ name → after ≡ insert_entry same_key es k v → IsMadeFirst name v before (named after)
  put_known es after k v before name view is entries n =
      ap (λ x. first_known n (named x)) entries ∙ put_first es k v n
      ∙ ap (λ m. cond (bytes_eq m n) (Some v) (first_known n (named es))) is ∙ ap (λ b. cond (bytes_eq name n) (Some v) (first_known n b)) view

-- ---- what is learnt

-- nothing is to be learnt of the first object that is known by the name
pub learnt_not : (name : List ℕ) (number : ℕ) (known : List (List ℕ × ℕ)) → first_known name known ≡ Some number → IsLearnt (bytes_eq name) number known known
learnt_not name number known at n = elim (cases_Bool (bytes_eq name n)) [
  | inl t ↦
      let there : first_known n known ≡ Some number = ap (λ m. first_known m known) (sym (same_bytes name n t)) ∙ at in
      let least : min number number ≡ number = omega arith in
      there ∙ sym (ap (λ b. cond b (Some (option_map_or (min number) (first_known n known) number)) (first_known n known)) t ∙ ap (λ r. Some (option_map_or (min number) r number)) there ∙ ap Some least)
  | inr u ↦ sym (ap (λ b. cond b (Some (option_map_or (min number) (first_known n known) number)) (first_known n known)) u)
]

-- what is learnt twice is learnt of the names of both
twice_by : (p q : Bool) (number : ℕ) (r : Option ℕ) → cond q (Some (option_map_or (min number) (cond p (Some (option_map_or (min number) r number)) r) number)) (cond p (Some (option_map_or (min number) r number)) r) ≡ cond (p || q) (Some (option_map_or (min number) r number)) r
twice_by true true number None = let e : min number number ≡ number = omega arith in ap Some e
twice_by true true number (Some k) = let e : min number (min number k) ≡ min number k = omega arith in ap Some e
twice_by true false number r = refl
twice_by false true number r = refl
twice_by false false number r = refl

pub learnt_both : (p q : List ℕ → Bool) (number : ℕ) (before mid after : List (List ℕ × ℕ)) → IsLearnt p number before mid → IsLearnt q number mid after → IsLearnt (λ n. p n || q n) number before after
learnt_both p q number before mid after h g n =
    g n ∙ ap (λ r. cond (q n) (Some (option_map_or (min number) r number)) r) (h n) ∙ twice_by (p n) (q n) number (first_known n before)

within_by : (b : Bool) (number bound j : ℕ) (r : Option ℕ) → number < bound → ((k : ℕ) → r ≡ Some k → k < bound) → cond b (Some (option_map_or (min number) r number)) r ≡ Some j → j < bound
within_by true number bound j None less all h = let e : number ≡ j = cc in omega (arith, e, less)
within_by true number bound j (Some k) less all h = let e : min number k ≡ j = cc in omega (arith, e, less)
within_by false number bound j r less all h = all j h

-- numbers stay below a bound
pub learnt_within : (passes : List ℕ → Bool) (number bound : ℕ) (before after : List (List ℕ × ℕ)) → IsLearnt passes number before after → number < bound → ((n : List ℕ) (j : ℕ) → first_known n before ≡ Some j → j < bound) → (n : List ℕ) (j : ℕ) → first_known n after ≡ Some j → j < bound
learnt_within passes number bound before after learnt less all n j h =
    within_by (passes n) number bound j (first_known n before) less (λ k e. all n k e) (sym (learnt n) ∙ h)
