-- What is contained in lists that are made of others.
use Rattle.std.proofs.Common.{◌≡◌, ◌≢◌, ◌∙◌, sym, ap, refl, subst, ℕ, zero, suc, ◌<◌, ◌||◌, List, [], ◌∷◌, ◌++◌, Bool, true, false, cond, Option, Some, None, filter, get_or, length, map, slice_get, arith, inl, inr}
use Rattle.std.specs.Prelude.{◌⊎◌, AllPairs}
use Rattle.std.specs.List.{AllByRecursion, Contains, cons_option, filter_map, find, flat_map, list_all, list_any}
use Rattle.std.proofs.lemmas.Bool.{and_from}
use Rattle.std.proofs.lemmas.List.Elements.{All-from_recursion, All-get_or, Contains-append_cases, Contains-append_left, Contains-append_right}
use Rattle.std.proofs.lemmas.Option.{get_or_from_slice_get, slice_get_read, slice_get_within}
use Rattle.answers.specs.First.{first_some}

pub here : {X : Type 0} (x : X) (xs : List X) → Contains (x ∷ xs) x
here x xs = (0, omega arith, refl)

pub later : {X : Type 0} (x y : X) (xs : List X) → Contains xs y → Contains (x ∷ xs) y
later x y xs h = (suc h.0, let less = h.1 in omega (arith, less), h.2)

pub in_none : {X : Type 0} (y : X) → Contains [] y → ⊥
in_none y h = let less = h.1 in omega (arith, less)

cases_by : {X : Type 0} (x y : X) (xs : List X) (k : ℕ) → k < length (x ∷ xs) → get_or (x ∷ xs) k y ≡ y → (x ≡ y) ⊎ Contains xs y
cases_by x y xs zero less h = inl h
cases_by x y xs (suc k) less h = inr (k, omega (arith, less), h)

pub cases : {X : Type 0} (x y : X) (xs : List X) → Contains (x ∷ xs) y → (x ≡ y) ⊎ Contains xs y
cases x y xs h = cases_by x y xs h.0 h.1 h.2

-- ---- by places

pub at_place : {X : Type 0} (xs : List X) (k : ℕ) (x : X) → slice_get xs k ≡ Some x → Contains xs x
at_place xs k x h = (k, slice_get_within xs k x h, get_or_from_slice_get xs k x x h)

pub place_of : {X : Type 0} (xs : List X) (x : X) (h : Contains xs x) → slice_get xs h.0 ≡ Some x
place_of xs x h = slice_get_read xs (length xs) h.0 x refl h.1 (sym h.2)

-- What stands at a place within a list.
pub record There {X : Type 0} (xs : List X) (k : ℕ) : Type 0 where
  pub it : X
  pub is : slice_get xs k ≡ Some it

pub is_there : {X : Type 0} (xs : List X) (k : ℕ) → k < length xs → There xs k
is_there [] k less = absurd (omega (arith, less))
is_there (x ∷ xs) zero less = record { it = x; is = refl }
is_there (x ∷ xs) (suc k) less = let t = is_there xs k (omega (arith, less)) in record { it = t.it; is = t.is }

-- ---- maps

pub in_map : {X Y : Type 0} (f : X → Y) (xs : List X) (x : X) → Contains xs x → Contains (map f xs) (f x)
in_map f [] x h = absurd (in_none x h)
in_map f (y ∷ xs) x h =
    elim (cases y x xs h) [
      | inl e ↦ subst (λ z. Contains (map f (y ∷ xs)) z) (ap f e) (here (f y) (map f xs))
      | inr more ↦ later (f y) (f x) (map f xs) (in_map f xs x more)
    ]

-- What an element was made of.
pub record Made {X Y : Type 0} (f : X → Y) (xs : List X) (y : Y) : Type 0 where
  pub from : X
  pub there : Contains xs from
  pub is : f from ≡ y

pub of_map : {X Y : Type 0} (f : X → Y) (xs : List X) (y : Y) → Contains (map f xs) y → Made f xs y
of_map f [] y h = absurd (in_none y h)
of_map f (x ∷ xs) y h =
    elim (cases (f x) y (map f xs) h) [
      | inl e ↦ record { from = x; there = here x xs; is = e }
      | inr more ↦ let m = of_map f xs y more in record { from = m.from; there = later x m.from xs m.there; is = m.is }
    ]

-- ---- filters

kept_by : {X : Type 0} (t : X → Bool) (x y : X) (xs : List X) (b : Bool) → t x ≡ b → (x ≡ y) ⊎ Contains (filter t xs) y → t y ≡ true → Contains (cond b (x ∷ filter t xs) (filter t xs)) y
kept_by t x y xs true e (inl same) p = subst (λ z. Contains (x ∷ filter t xs) z) same (here x (filter t xs))
kept_by t x y xs true e (inr more) p = later x y (filter t xs) more
kept_by t x y xs false e (inl same) p = let clash : true ≡ false = sym p ∙ ap t (sym same) ∙ e in cc
kept_by t x y xs false e (inr more) p = more

pub in_filter : {X : Type 0} (t : X → Bool) (xs : List X) (y : X) → Contains xs y → t y ≡ true → Contains (filter t xs) y
in_filter t [] y h p = absurd (in_none y h)
in_filter t (x ∷ xs) y h p =
    kept_by t x y xs (t x) refl (elim (cases x y xs h) [
      | inl e ↦ inl e
      | inr more ↦ inr (in_filter t xs y more p)
    ]) p

of_kept : {X : Type 0} (t : X → Bool) (x y : X) (xs : List X) (b : Bool) → t x ≡ b → (Contains (filter t xs) y → Contains xs y × (t y ≡ true)) → Contains (cond b (x ∷ filter t xs) (filter t xs)) y → Contains (x ∷ xs) y × (t y ≡ true)
of_kept t x y xs true e f h =
    elim (cases x y (filter t xs) h) [
      | inl same ↦ (subst (λ z. Contains (x ∷ xs) z) same (here x xs), ap t (sym same) ∙ e)
      | inr more ↦ (later x y xs (f more).0, (f more).1)
    ]
of_kept t x y xs false e f h = (later x y xs (f h).0, (f h).1)

pub of_filter : {X : Type 0} (t : X → Bool) (xs : List X) (y : X) → Contains (filter t xs) y → Contains xs y × (t y ≡ true)
of_filter t [] y h = absurd (in_none y h)
of_filter t (x ∷ xs) y h = of_kept t x y xs (t x) refl (of_filter t xs y) h

-- ---- what some elements give

in_given : {X Y : Type 0} (f : X → Option Y) (x z : X) (y : Y) (xs : List X) (o : Option Y) → f x ≡ o → (x ≡ z) ⊎ Contains (filter_map f xs) y → f z ≡ Some y → Contains (cons_option o (filter_map f xs)) y
in_given f x z y xs None e (inl same) p = let clash : ◌≡◌ {A = Option _} None (Some y) = sym e ∙ ap f same ∙ p in cc
in_given f x z y xs None e (inr more) p = more
in_given f x z y xs (Some w) e (inl same) p =
    let both : Some w ≡ Some y = sym e ∙ ap f same ∙ p in
    let is : w ≡ y = cc in
    subst (λ v. Contains (w ∷ filter_map f xs) v) is (here w (filter_map f xs))
in_given f x z y xs (Some w) e (inr more) p = later w y (filter_map f xs) more

pub in_filter_map : {X Y : Type 0} (f : X → Option Y) (xs : List X) (z : X) (y : Y) → Contains xs z → f z ≡ Some y → Contains (filter_map f xs) y
in_filter_map f [] z y h p = absurd (in_none z h)
in_filter_map f (x ∷ xs) z y h p =
    in_given f x z y xs (f x) refl (elim (cases x z xs h) [
      | inl e ↦ inl e
      | inr more ↦ inr (in_filter_map f xs z y more p)
    ]) p

pub record Given {X Y : Type 0} (f : X → Option Y) (xs : List X) (y : Y) : Type 0 where
  pub from : X
  pub there : Contains xs from
  pub is : f from ≡ Some y

given_later : {X Y : Type 0} (f : X → Option Y) (x : X) (xs : List X) (y : Y) → Given f xs y → Given f (x ∷ xs) y
given_later f x xs y g = record { from = g.from; there = later x g.from xs g.there; is = g.is }

of_given : {X Y : Type 0} (f : X → Option Y) (x : X) (xs : List X) (y : Y) (o : Option Y) → f x ≡ o → (Contains (filter_map f xs) y → Given f xs y) → Contains (cons_option o (filter_map f xs)) y → Given f (x ∷ xs) y
of_given f x xs y None e g h = given_later f x xs y (g h)
of_given f x xs y (Some w) e g h =
    elim (cases w y (filter_map f xs) h) [
      | inl same ↦ record { from = x; there = here x xs; is = e ∙ ap Some same }
      | inr more ↦ given_later f x xs y (g more)
    ]

pub of_filter_map : {X Y : Type 0} (f : X → Option Y) (xs : List X) (y : Y) → Contains (filter_map f xs) y → Given f xs y
of_filter_map f [] y h = absurd (in_none y h)
of_filter_map f (x ∷ xs) y h = of_given f x xs y (f x) refl (of_filter_map f xs y) h

-- ---- lists that are joined

pub in_flat_map : {X Y : Type 0} (f : X → List Y) (xs : List X) (x : X) (y : Y) → Contains xs x → Contains (f x) y → Contains (flat_map f xs) y
in_flat_map f [] x y h p = absurd (in_none x h)
in_flat_map f (z ∷ xs) x y h p =
    elim (cases z x xs h) [
      | inl e ↦ Contains-append_left (f z) (flat_map f xs) y (subst (λ w. Contains (f w) y) (sym e) p)
      | inr more ↦ Contains-append_right (f z) (flat_map f xs) y (in_flat_map f xs x y more p)
    ]

pub record Within {X Y : Type 0} (f : X → List Y) (xs : List X) (y : Y) : Type 0 where
  pub from : X
  pub there : Contains xs from
  pub is : Contains (f from) y

pub of_flat_map : {X Y : Type 0} (f : X → List Y) (xs : List X) (y : Y) → Contains (flat_map f xs) y → Within f xs y
of_flat_map f [] y h = absurd (in_none y h)
of_flat_map f (x ∷ xs) y h =
    elim (Contains-append_cases (f x) (flat_map f xs) y h) [
      | inl e ↦ record { from = x; there = here x xs; is = e }
      | inr more ↦ let w = of_flat_map f xs y more in record { from = w.from; there = later x w.from xs w.there; is = w.is }
    ]

-- ---- what is found

none_by : {X A : Type 0} (f : X → Option A) (x : X) (xs : List X) (o : Option A) → f x ≡ o → first_some (o ∷ map f xs) ≡ None → (f x ≡ None) × (first_some (map f xs) ≡ None)
none_by f x xs None e h = (e, h)
none_by f x xs (Some a) e h = cc

-- Where none gives anything, no element does.
pub none_gives : {X A : Type 0} (f : X → Option A) (xs : List X) (x : X) → first_some (map f xs) ≡ None → Contains xs x → f x ≡ None
none_gives f [] x h c = absurd (in_none x c)
none_gives f (y ∷ xs) x h c =
    let both = none_by f y xs (f y) refl h in
    elim (cases y x xs c) [
      | inl e ↦ ap f (sym e) ∙ both.0
      | inr more ↦ none_gives f xs x both.1 more
    ]

passed_by : {X : Type 0} (t : X → Bool) (x : X) (xs : List X) (b : Bool) → t x ≡ b → cond b (Some x) (find t xs) ≡ None → (t x ≡ false) × (find t xs ≡ None)
passed_by t x xs true e h = cc
passed_by t x xs false e h = (e, h)

pub none_passes : {X : Type 0} (t : X → Bool) (xs : List X) (x : X) → find t xs ≡ None → Contains xs x → t x ≡ false
none_passes t [] x h c = absurd (in_none x c)
none_passes t (y ∷ xs) x h c =
    let both = passed_by t y xs (t y) refl h in
    elim (cases y x xs c) [
      | inl e ↦ ap t (sym e) ∙ both.0
      | inr more ↦ none_passes t xs x both.1 more
    ]

found_by : {X : Type 0} (t : X → Bool) (x y : X) (xs : List X) (b : Bool) → t x ≡ b → (find t xs ≡ Some y → Contains xs y) → cond b (Some x) (find t xs) ≡ Some y → Contains (x ∷ xs) y
found_by t x y xs true e f h = let same : x ≡ y = cc in subst (λ z. Contains (x ∷ xs) z) same (here x xs)
found_by t x y xs false e f h = later x y xs (f h)

pub found_in : {X : Type 0} (t : X → Bool) (xs : List X) (y : X) → find t xs ≡ Some y → Contains xs y
found_in t [] y h = cc
found_in t (x ∷ xs) y h = found_by t x y xs (t x) refl (found_in t xs y) h

any_or : {X : Type 0} (t : X → Bool) (x y : X) (xs : List X) (b : Bool) → t x ≡ b → (x ≡ y) ⊎ (list_any t xs ≡ true) → t y ≡ true → (b || list_any t xs) ≡ true
any_or t x y xs true e m p = refl
any_or t x y xs false e (inl same) p = let clash : true ≡ false = sym p ∙ ap t (sym same) ∙ e in cc
any_or t x y xs false e (inr more) p = more

pub any_in : {X : Type 0} (t : X → Bool) (xs : List X) (y : X) → Contains xs y → t y ≡ true → list_any t xs ≡ true
any_in t [] y h p = absurd (in_none y h)
any_in t (x ∷ xs) y h p =
    any_or t x y xs (t x) refl (elim (cases x y xs h) [
      | inl e ↦ inl e
      | inr more ↦ inr (any_in t xs y more p)
    ]) p

-- What passes.
pub record Passing {X : Type 0} (t : X → Bool) (xs : List X) : Type 0 where
  pub it : X
  pub there : Contains xs it
  pub passes : t it ≡ true

passing_by : {X : Type 0} (t : X → Bool) (x : X) (xs : List X) (b : Bool) → t x ≡ b → (list_any t xs ≡ true → Passing t xs) → (b || list_any t xs) ≡ true → Passing t (x ∷ xs)
passing_by t x xs true e f h = record { it = x; there = here x xs; passes = e }
passing_by t x xs false e f h = let p = f h in record { it = p.it; there = later x p.it xs p.there; passes = p.passes }

pub of_any : {X : Type 0} (t : X → Bool) (xs : List X) → list_any t xs ≡ true → Passing t xs
of_any t [] h = cc
of_any t (x ∷ xs) h = passing_by t x xs (t x) refl (of_any t xs) h

pub all_of : {X : Type 0} (t : X → Bool) (xs : List X) → ((x : X) → Contains xs x → t x ≡ true) → list_all t xs ≡ true
all_of t [] h = refl
all_of t (x ∷ xs) h = and_from (t x) (list_all t xs) (h x (here x xs)) (all_of t xs (λ y c. h y (later x y xs c)))

-- ---- pairs

-- Each element before each later one.
abbrev pub Paired : {X : Type 0} → (X → X → Type 0) → List X → Type 0
Paired R [] = Unit {0}
Paired R (x ∷ xs) = ((y : _) → Contains xs y → R x y) × Paired R xs

pairs_at : {X : Type 0} (R : X → X → Type 0) (xs : List X) (i j : ℕ) (d : X) → Paired R xs → i < j → j < length xs → R (get_or xs i d) (get_or xs j d)
pairs_at R [] i j d p l h = absurd (omega (arith, h))
pairs_at R (x ∷ xs) i zero d p l h = absurd (omega (arith, l))
pairs_at R (x ∷ xs) zero (suc j) d p l h = p.0 (get_or xs j d) (j, omega (arith, h), inside xs j d (omega (arith, h)))
  where
    inside : {X : Type 0} (xs : List X) (j : ℕ) (d : X) → j < length xs → get_or xs j (get_or xs j d) ≡ get_or xs j d
    inside [] j d less = absurd (omega (arith, less))
    inside (x ∷ xs) zero d less = refl
    inside (x ∷ xs) (suc j) d less = inside xs j d (omega (arith, less))
pairs_at R (x ∷ xs) (suc i) (suc j) d p l h = pairs_at R xs i j d p.1 (omega (arith, l)) (omega (arith, h))

pub all_pairs : {X : Type 0} (R : X → X → Type 0) (xs : List X) → Paired R xs → AllPairs R xs
all_pairs R xs p = λ i j d less within. pairs_at R xs i j d p less within

pub paired_map : {X Y : Type 0} (R : Y → Y → Type 0) (f : X → Y) (xs : List X) → Paired (λ a b. R (f a) (f b)) xs → Paired R (map f xs)
paired_map R f [] p = tt
paired_map R f (x ∷ xs) p =
    (λ y c. let m = of_map f xs y c in subst (R (f x)) m.is (p.0 m.from m.there), paired_map R f xs p.1)

paired_kept : {X : Type 0} (R : X → X → Type 0) (t : X → Bool) (x : X) (xs : List X) (b : Bool) → ((y : X) → Contains xs y → R x y) → Paired R (filter t xs) → Paired R (cond b (x ∷ filter t xs) (filter t xs))
paired_kept R t x xs true h p = (λ y c. h y (of_filter t xs y c).0, p)
paired_kept R t x xs false h p = p

pub paired_filter : {X : Type 0} (R : X → X → Type 0) (t : X → Bool) (xs : List X) → Paired R xs → Paired R (filter t xs)
paired_filter R t [] p = tt
paired_filter R t (x ∷ xs) p = paired_kept R t x xs (t x) p.0 (paired_filter R t xs p.1)

-- One more at the end.
pub paired_more : {X : Type 0} (R : X → X → Type 0) (xs : List X) (y : X) → Paired R xs → ((x : X) → Contains xs x → R x y) → Paired R (xs ++ y ∷ [])
paired_more R [] y p h = (λ z c. absurd (in_none z c), tt)
paired_more R (x ∷ xs) y p h = (
  λ z c. elim (Contains-append_cases xs (y ∷ []) z c) [
    | inl left ↦ p.0 z left
    | inr right ↦ elim (cases y z [] right) [
      | inl e ↦ subst (R x) e (h x (here x xs))
      | inr none ↦ absurd (in_none z none)
    ]
  ],
  paired_more R xs y p.1 (λ w c. h w (later x w xs c)),
)

-- Elements of which neither goes before the other are one.
pub paired_same : {X : Type 0} (R : X → X → Type 0) (xs : List X) (a b : X) → Paired R xs → Contains xs a → Contains xs b → (R a b → ⊥) → (R b a → ⊥) → a ≡ b
paired_same R [] a b p c d m n = absurd (in_none a c)
paired_same R (x ∷ xs) a b p c d m n =
    elim (cases x a xs c) [
      | inl e ↦ elim (cases x b xs d) [
        | inl f ↦ sym e ∙ f
        | inr later ↦ absurd (m (subst (λ z. R z b) e (p.0 b later)))
      ]
      | inr first ↦ elim (cases x b xs d) [
        | inl f ↦ absurd (n (subst (λ z. R z a) f (p.0 a first)))
        | inr later ↦ paired_same R xs a b p.1 first later m n
      ]
    ]
