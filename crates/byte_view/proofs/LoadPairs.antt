-- The first loaded segment that begins below the bound of the one before it is the one that the recursion finds.
use Rattle.std.proofs.Common.{◌≡◌, ℕ, zero, suc, ◌+◌, ◌<◌, ◌⊎◌, Bool, true, false, cond, List, [], ◌∷◌, Option, Some, None, refl, ap, subst, inl, inr, arith}
use Rattle.std.specs.Prelude.{nat_lt, slice_get}
use Rattle.std.proofs.lemmas.Bool.Decides.{nat_tests}
use Rattle.byte_view.specs.Checks.{flaw, flaw_at}
use Rattle.byte_view.specs.HeaderFlaws.{first_below}
use Rattle.byte_view.specs.Headers.{is_load}
use Rattle.byte_view.specs.LoadPairs.{BeginsBelow, IsFirstBelow, NamesFirstBelow}
use Rattle.byte_view.specs.declared.flaws.Flaw.{Flaw}
use Rattle.byte_view.specs.declared.segments.Segment.{Segment}

-- the bound that holds behind a header
abbrev next : (Segment → ℕ) → ℕ → Segment → ℕ
next bound low s = cond (is_load s) (bound s) low

-- header j is a LOAD below the bound that the headers before it leave
abbrev IsBelow : (Segment → ℕ) → ℕ → List Segment → ℕ → Type 0
IsBelow bound low [] j = ⊥
IsBelow bound low (s ∷ rest) zero = (is_load s ≡ true) × (s.vaddr < low)
IsBelow bound low (s ∷ rest) (suc j) = IsBelow bound (next bound low s) rest j

-- what the recursion finds
abbrev Finds : (Segment → ℕ) → ℕ → ℕ → List Segment → Option ℕ → Type 0
Finds bound i low segments None = (j : ℕ) → ¬ (IsBelow bound low segments j)
Finds bound i low segments (Some n) = (j : ℕ) × ((n ≡ i + j) × (IsBelow bound low segments j × ((k : ℕ) → k < j → ¬ (IsBelow bound low segments k))))

-- one header more in front, which is not below the bound
later : (bound : Segment → ℕ) (i low : ℕ) (s : Segment) (rest : List Segment) (o : Option ℕ) → ¬ (IsBelow bound low (s ∷ rest) 0) → Finds bound (suc i) (next bound low s) rest o → Finds bound i low (s ∷ rest) o
later bound i low s rest None not_here f = go
  where
    go : (j : ℕ) → ¬ (IsBelow bound low (s ∷ rest) j)
    go zero = not_here
    go (suc j) = f j
later bound i low s rest (Some n) not_here f = (suc f.0, (omega (arith, f.1.0), (f.1.1.0, go)))
  where
    go : (k : ℕ) → k < suc f.0 → ¬ (IsBelow bound low (s ∷ rest) k)
    go zero h = not_here
    go (suc k) h = f.1.1.1 k (omega arith)

not_lower : (m n : ℕ) → nat_lt m n ≡ false → m < n → ⊥
not_lower m n k h = grind (arith, nat_tests)

not_both : (b : Bool) → b ≡ true → b ≡ false → ⊥
not_both b t f = cc

found : (bound : Segment → ℕ) (i low : ℕ) (segments : List Segment) → Finds bound i low segments (first_below bound i low segments)
unfolding first_below
found bound i low [] = λ j b. b
found bound i low (s ∷ rest) =
    go (is_load s) refl (nat_lt s.vaddr low) refl (found bound (suc i) (bound s) rest) (found bound (suc i) low rest)
  where
    go : (a : Bool) → is_load s ≡ a → (b : Bool) → nat_lt s.vaddr low ≡ b → Finds bound (suc i) (bound s) rest (first_below bound (suc i) (bound s) rest) → Finds bound (suc i) low rest (first_below bound (suc i) low rest) → Finds bound i low (s ∷ rest) (cond a (cond b (Some i) (first_below bound (suc i) (bound s) rest)) (first_below bound (suc i) low rest))
    go true h true k load other = (0, (omega arith, ((h, grind (arith, nat_tests)), λ m l. absurd (omega arith))))
    go true h false k load other =
        let behind : Finds bound (suc i) (next bound low s) rest (first_below bound (suc i) (bound s) rest) = rw h load in
        later bound i low s rest (first_below bound (suc i) (bound s) rest) (λ b. not_lower s.vaddr low k b.1) behind
    go false h b k load other =
        let behind : Finds bound (suc i) (next bound low s) rest (first_below bound (suc i) low rest) = rw h other in
        later bound i low s rest (first_below bound (suc i) low rest) (λ b. not_both (is_load s) b.0 h) behind

-- no LOAD stands before header j, which is a LOAD below a bound
record IsLowest (low : ℕ) (segments : List Segment) (j : ℕ) : Type 0 where
  pub it : Segment
  pub there : slice_get segments j ≡ Some it
  pub load : is_load it ≡ true
  pub below : it.vaddr < low
  pub none : (k : ℕ) (s : Segment) → k < j → slice_get segments k ≡ Some s → is_load s ≡ false

-- with one header more in front
one_more : (bound : Segment → ℕ) (s : Segment) (rest : List Segment) (j : ℕ) → BeginsBelow bound rest j → BeginsBelow bound (s ∷ rest) (suc j)
one_more bound s rest j p = record {
  before = p.before;
  it = p.it;
  pair = record {
    place = suc p.pair.place;
    lower = omega (arith, p.pair.lower);
    before_there = p.pair.before_there;
    it_there = p.pair.it_there;
    before_load = p.pair.before_load;
    it_load = p.pair.it_load;
    between = between;
  };
  below = p.below;
}
  where
    between : (k : ℕ) (t : Segment) → suc p.pair.place < k → k < suc j → slice_get (s ∷ rest) k ≡ Some t → is_load t ≡ false
    between zero t l h e = absurd (omega arith)
    between (suc k) t l h e = p.pair.between k t (omega arith) (omega arith) e

behind_load : (bound : Segment → ℕ) (s : Segment) (rest : List Segment) (j : ℕ) → is_load s ≡ true → IsLowest (bound s) rest j → BeginsBelow bound (s ∷ rest) (suc j)
behind_load bound s rest j load q = record {
  before = s;
  it = q.it;
  pair = record {
    place = 0;
    lower = omega arith;
    before_there = refl;
    it_there = q.there;
    before_load = load;
    it_load = q.load;
    between = between;
  };
  below = q.below;
}
  where
    between : (k : ℕ) (t : Segment) → 0 < k → k < suc j → slice_get (s ∷ rest) k ≡ Some t → is_load t ≡ false
    between zero t l h e = absurd (omega arith)
    between (suc k) t l h e = q.none k t (omega arith) e

behind_other : (low : ℕ) (s : Segment) (rest : List Segment) (j : ℕ) → is_load s ≡ false → IsLowest low rest j → IsLowest low (s ∷ rest) (suc j)
behind_other low s rest j other q = record { it = q.it; there = q.there; load = q.load; below = q.below; none = none }
  where
    none : (k : ℕ) (t : Segment) → k < suc j → slice_get (s ∷ rest) k ≡ Some t → is_load t ≡ false
    none zero t h e = let same : s ≡ t = cc in subst (λ (x : Segment). is_load x ≡ false) same other
    none (suc k) t h e = q.none k t (omega arith) e

forward : (bound : Segment → ℕ) (low : ℕ) (segments : List Segment) (j : ℕ) → IsBelow bound low segments j → BeginsBelow bound segments j ⊎ IsLowest low segments j
forward bound low [] j h = absurd h
forward bound low (s ∷ rest) zero h = inr (record { it = s; there = refl; load = h.0; below = h.1; none = λ k t l e. absurd (omega arith) })
forward bound low (s ∷ rest) (suc j) h = go (is_load s) refl (forward bound (next bound low s) rest j h)
  where
    go : (b : Bool) → is_load s ≡ b → BeginsBelow bound rest j ⊎ IsLowest (cond b (bound s) low) rest j → BeginsBelow bound (s ∷ rest) (suc j) ⊎ IsLowest low (s ∷ rest) (suc j)
    go b e (inl p) = inl (one_more bound s rest j p)
    go true e (inr q) = inl (behind_load bound s rest j e q)
    go false e (inr q) = inr (behind_other low s rest j e q)

-- without the first header
without : (bound : Segment → ℕ) (low : ℕ) (s : Segment) (rest : List Segment) (j : ℕ) (before it : Segment) (place : ℕ) → place < suc j → slice_get (s ∷ rest) place ≡ Some before → slice_get rest j ≡ Some it → is_load before ≡ true → is_load it ≡ true → ((k : ℕ) (t : Segment) → place < k → k < suc j → slice_get (s ∷ rest) k ≡ Some t → is_load t ≡ false) → it.vaddr < bound before → BeginsBelow bound rest j ⊎ IsLowest (next bound low s) rest j
without bound low s rest j before it zero lower b i bl il between below =
    let same : before ≡ s = cc in
    let load : is_load s ≡ true = subst (λ (x : Segment). is_load x ≡ true) same bl in
    let high : it.vaddr < bound s = subst (λ (x : Segment). it.vaddr < bound x) same below in
    inr (record { it = it; there = i; load = il; below = rw load high; none = λ k t l e. between (suc k) t (omega arith) (omega arith) e })
without bound low s rest j before it (suc place) lower b i bl il between below =
    inl (record {
      before = before;
      it = it;
      pair = record {
        place = place;
        lower = omega arith;
        before_there = b;
        it_there = i;
        before_load = bl;
        it_load = il;
        between = λ k t l h e. between (suc k) t (omega arith) (omega arith) e;
      };
      below = below;
    })

without_other : (bound : Segment → ℕ) (low : ℕ) (s : Segment) (rest : List Segment) (j : ℕ) → IsLowest low (s ∷ rest) (suc j) → IsLowest (next bound low s) rest j
without_other bound low s rest j q =
    let other : is_load s ≡ false = q.none 0 s (omega arith) refl in
    record { it = q.it; there = q.there; load = q.load; below = rw other q.below; none = λ k t l e. q.none (suc k) t (omega arith) e }

backward : (bound : Segment → ℕ) (low : ℕ) (segments : List Segment) (j : ℕ) → BeginsBelow bound segments j ⊎ IsLowest low segments j → IsBelow bound low segments j
backward bound low [] j (inl p) = absurd (let e : None ≡ Some p.it = p.pair.it_there in cc)
backward bound low [] j (inr q) = absurd (let e : None ≡ Some q.it = q.there in cc)
backward bound low (s ∷ rest) zero (inl p) = absurd (omega (arith, p.pair.lower))
backward bound low (s ∷ rest) zero (inr q) =
    let same : q.it ≡ s = let e : Some s ≡ Some q.it = q.there in cc in
    (subst (λ (x : Segment). is_load x ≡ true) same q.load, subst (λ (x : Segment). x.vaddr < low) same q.below)
backward bound low (s ∷ rest) (suc j) (inl p) =
    backward bound (next bound low s) rest j (without bound low s rest j p.before p.it p.pair.place p.pair.lower p.pair.before_there p.pair.it_there p.pair.before_load p.pair.it_load p.pair.between p.below)
backward bound low (s ∷ rest) (suc j) (inr q) =
    backward bound (next bound low s) rest j (inr (without_other bound low s rest j q))

begins : (bound : Segment → ℕ) (segments : List Segment) (j : ℕ) → IsBelow bound 0 segments j → BeginsBelow bound segments j
begins bound segments j h = go (forward bound 0 segments j h)
  where
    go : BeginsBelow bound segments j ⊎ IsLowest 0 segments j → BeginsBelow bound segments j
    go (inl p) = p
    go (inr q) = absurd (omega (arith, q.below))

one_first : (m n : ℕ) → ¬ (m < n) → ¬ (n < m) → m ≡ n
one_first m n low high = go (nat_lt m n) refl (nat_lt n m) refl
  where
    go : (a : Bool) → nat_lt m n ≡ a → (b : Bool) → nat_lt n m ≡ b → m ≡ n
    go true e b f = absurd (low (grind (arith, nat_tests)))
    go false e true f = absurd (high (grind (arith, nat_tests)))
    go false e false f = grind (arith, nat_tests)

abbrev number : Option Flaw → ℕ
number None = 0
number (Some f) = f.a

names : (bound : Segment → ℕ) (code : ℕ) (segments : List Segment) (o : Option ℕ) → Finds bound 0 0 segments o → NamesFirstBelow bound code segments (flaw_at code o)
names bound code segments None f = record {
  named = λ j. (λ e. absurd (cc), λ first. absurd (f j (backward bound 0 segments j (inl first.here))));
  none = (λ e j b. f j (backward bound 0 segments j (inl b)), λ all. refl);
}
names bound code segments (Some n) f = record {
  named = λ j. (to j, from j);
  none = (λ e. absurd (cc), λ all. absurd (all f.0 (begins bound segments f.0 f.1.1.0)));
}
  where
    there : IsFirstBelow bound segments f.0
    there = record { here = begins bound segments f.0 f.1.1.0; first = λ k l b. f.1.1.1 k l (backward bound 0 segments k (inl b)) }

    to : (j : ℕ) → Some (flaw code n 0) ≡ Some (flaw code j 0) → IsFirstBelow bound segments j
    to j e = let same : n ≡ j = ap number e in subst (IsFirstBelow bound segments) (let p : f.0 ≡ j = omega (arith, f.1.0) in p) there

    from : (j : ℕ) → IsFirstBelow bound segments j → Some (flaw code n 0) ≡ Some (flaw code j 0)
    from j first =
        let same : f.0 ≡ j = one_first f.0 j (λ l. first.first f.0 l there.here) (λ l. f.1.1.1 j l (backward bound 0 segments j (inl first.here))) in
        let it : n ≡ j = omega (arith, f.1.0) in
        ap (λ (m : ℕ). Some (flaw code m 0)) it

-- the check of the order, and the check of the overlap, name the first header that begins below its bound
pub first_named : (bound : Segment → ℕ) (code : ℕ) (segments : List Segment) → NamesFirstBelow bound code segments (flaw_at code (first_below bound 0 0 segments))
first_named bound code segments = names bound code segments (first_below bound 0 0 segments) (found bound 0 0 segments)
