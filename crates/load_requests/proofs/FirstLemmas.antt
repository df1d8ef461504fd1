-- The first that passes, where one more passes or one more comes.
use Rattle.std.proofs.Common.{◌≡◌, ◌≢◌, ◌∙◌, sym, ap, refl, ℕ, suc, ◌+◌, ◌<◌, ◌≤◌, List, [], ◌∷◌, ◌++◌, Bool, true, false, cond, ◌==◌, ◌&&◌, ◌||◌, Option, Some, None, length, position, slice_get, arith, min}
use Rattle.std.specs.List.{position_from}
use Rattle.std.specs.Option.{option_map_or}
use Rattle.std.proofs.lemmas.Bool.{eqb-false, eqb-true}
use Rattle.std.proofs.lemmas.Iterator.Adapters.{position_from-zero}
use Rattle.load_model.specs.LoadList.{Object, first_place}

least_by : (b : Bool) (k p : ℕ) (r : Option ℕ) → cond b (Some k) r ≡ Some p → ((q : ℕ) → r ≡ Some q → suc k ≤ q) → k ≤ p
least_by true k p r h all = let e : k ≡ p = cc in omega (arith, e)
least_by false k p r h all = let less = all p h in omega (arith, less)

place_least : (test : ℕ → Object → Bool) (k p : ℕ) (os : List Object) → first_place test k os ≡ Some p → k ≤ p
place_least test k p [] h = cc
place_least test k p (o ∷ os) h = least_by (test k o) k p (first_place test (suc k) os) h (λ q e. place_least test (suc k) q os e)

lesser_is : (k i : ℕ) (r : Option ℕ) → i ≡ k → ((p : ℕ) → r ≡ Some p → suc k ≤ p) → option_map_or (min i) r i ≡ k
lesser_is k i None e all = e
lesser_is k i (Some p) e all = let less : suc k ≤ p = all p refl in omega (arith, e, less)

-- ---- one more passes

place_same : (t u : ℕ → Object → Bool) (k : ℕ) (os : List Object) → ((j : ℕ) (o : Object) → slice_get os j ≡ Some o → u (k + j) o ≡ t (k + j) o) → first_place u k os ≡ first_place t k os
place_same t u k [] h = refl
place_same t u k (o ∷ os) h =
    let z : k + 0 ≡ k = omega arith in
    let here : u k o ≡ t k o = ap (λ i. u i o) (sym z) ∙ h 0 o refl ∙ ap (λ i. t i o) z in
    ap (λ b. cond b (Some k) (first_place u (suc k) os)) here
    ∙ ap (λ r. cond (t k o) (Some k) r) (place_same t u (suc k) os (λ j x g. let up : suc k + j ≡ k + suc j = omega arith in ap (λ i. u i x) up ∙ h (suc j) x g ∙ ap (λ i. t i x) (sym up)))

pass_by : (a b c : Bool) (k i : ℕ) (r rest : Option ℕ) → c ≡ (a || b) → (b ≡ true → i ≡ k) → ((p : ℕ) → r ≡ Some p → suc k ≤ p) → k ≤ i → (b ≡ false → rest ≡ Some (option_map_or (min i) r i)) → cond c (Some k) rest ≡ Some (option_map_or (min i) (cond a (Some k) r) i)
pass_by true b c k i r rest is at all le more = ap (λ x. cond x (Some k) rest) is ∙ (let e : k ≡ min i k = omega (arith, le) in ap Some e)
pass_by false true c k i r rest is at all le more = ap (λ x. cond x (Some k) rest) is ∙ ap Some (sym (lesser_is k i r (at refl) all))
pass_by false false c k i r rest is at all le more = ap (λ x. cond x (Some k) rest) is ∙ more refl

passes_at : (t u : ℕ → Object → Bool) (i k : ℕ) (os : List Object) → k ≤ i → i < k + length os → ((j : ℕ) (o : Object) → slice_get os j ≡ Some o → u (k + j) o ≡ (t (k + j) o || (i == (k + j)))) → first_place u k os ≡ Some (option_map_or (min i) (first_place t k os) i)
passes_at t u i k [] le less h = absurd (omega (arith, le, less))
passes_at t u i k (o ∷ os) le less h =
    let z : k + 0 ≡ k = omega arith in
    let here : u k o ≡ (t k o || (i == k)) = ap (λ n. u n o) (sym z) ∙ h 0 o refl ∙ ap (λ n. t n o || (i == n)) z in
    pass_by (t k o) (i == k) (u k o) k i (first_place t (suc k) os) (first_place u (suc k) os) here (λ e. eqb-true i k e) (λ p e. place_least t (suc k) p os e) le
    (λ f. passes_at t u i (suc k) os (later i k le f) (omega (arith, less)) (λ j x g. let up : suc k + j ≡ k + suc j = omega arith in ap (λ n. u n x) up ∙ h (suc j) x g ∙ ap (λ n. t n x || (i == n)) (sym up)))
  where
    later : (i k : ℕ) → k ≤ i → (i == k) ≡ false → suc k ≤ i
    later i k le f = let apart : i ≢ k = eqb-false i k f in omega (arith, le, apart)

pub place_more : (b : Bool) (t u : ℕ → Object → Bool) (i : ℕ) (os : List Object) → i < length os → ((j : ℕ) (o : Object) → slice_get os j ≡ Some o → u j o ≡ (t j o || (b && (i == j)))) → first_place u 0 os ≡ cond b (Some (option_map_or (min i) (first_place t 0 os) i)) (first_place t 0 os)
place_more true t u i os less h = passes_at t u i 0 os (omega arith) (omega (arith, less)) (λ j o g. let z : 0 + j ≡ j = omega arith in ap (λ n. u n o) z ∙ h j o g ∙ ap (λ n. t n o || (i == n)) (sym z))
place_more false t u i os less h = place_same t u 0 os (λ j o g. let z : 0 + j ≡ j = omega arith in ap (λ n. u n o) z ∙ h j o g ∙ or_no (t j o) ∙ ap (λ n. t n o) (sym z))
  where
    or_no : (x : Bool) → (x || false) ≡ x
    or_no true = refl
    or_no false = refl

-- ---- one more comes

last_by : (a c : Bool) (k n : ℕ) (r rest : Option ℕ) → k ≤ n → rest ≡ cond c (Some (option_map_or (min n) r n)) r → cond a (Some k) rest ≡ cond c (Some (option_map_or (min n) (cond a (Some k) r) n)) (cond a (Some k) r)
last_by true true k n r rest le h = let e : k ≡ min n k = omega (arith, le) in ap Some e
last_by true false k n r rest le h = refl
last_by false c k n r rest le h = h

last_at : (t u : ℕ → Object → Bool) (k n : ℕ) (os : List Object) (o : Object) → k + length os ≡ n → ((j : ℕ) (x : Object) → slice_get os j ≡ Some x → u (k + j) x ≡ t (k + j) x) → first_place u k (os ++ o ∷ []) ≡ cond (u n o) (Some (option_map_or (min n) (first_place t k os) n)) (first_place t k os)
last_at t u k n [] o e h = let z : k ≡ n = omega (arith, e) in ap (λ m. cond (u m o) (Some m) None) z
last_at t u k n (x ∷ os) o e h =
    let z : k + 0 ≡ k = omega arith in
    let here : u k x ≡ t k x = ap (λ m. u m x) (sym z) ∙ h 0 x refl ∙ ap (λ m. t m x) z in
    ap (λ b. cond b (Some k) (first_place u (suc k) (os ++ o ∷ []))) here
    ∙ last_by (t k x) (u n o) k n (first_place t (suc k) os) (first_place u (suc k) (os ++ o ∷ [])) (omega (arith, e))
    (last_at t u (suc k) n os o (omega (arith, e)) (λ j y g. let up : suc k + j ≡ k + suc j = omega arith in ap (λ m. u m y) up ∙ h (suc j) y g ∙ ap (λ m. t m y) (sym up)))

pub place_last : (t u : ℕ → Object → Bool) (os : List Object) (o : Object) → ((j : ℕ) (x : Object) → slice_get os j ≡ Some x → u j x ≡ t j x) → first_place u 0 (os ++ o ∷ []) ≡ cond (u (length os) o) (Some (option_map_or (min (length os)) (first_place t 0 os) (length os))) (first_place t 0 os)
place_last t u os o h = last_at t u 0 (length os) os o (omega arith) (λ j x g. let z : 0 + j ≡ j = omega arith in ap (λ m. u m x) z ∙ h j x g ∙ ap (λ m. t m x) (sym z))

position_at : {X : Type 0} (p : X → Bool) (k n : ℕ) (xs : List X) (x : X) → k + length xs ≡ n → position_from p k (xs ++ x ∷ []) ≡ cond (p x) (Some (option_map_or (min n) (position_from p k xs) n)) (position_from p k xs)
position_at p k n [] x e = let z : k ≡ n = omega (arith, e) in ap (λ m. cond (p x) (Some m) None) z
position_at p k n (y ∷ ys) x e =
    last_by (p y) (p x) k n (position_from p (k + 1) ys) (position_from p (k + 1) (ys ++ x ∷ [])) (omega (arith, e)) (position_at p (k + 1) n ys x (omega (arith, e)))

pub position_last : {X : Type 0} (p : X → Bool) (xs : List X) (x : X) → position p (xs ++ x ∷ []) ≡ cond (p x) (Some (option_map_or (min (length xs)) (position p xs) (length xs))) (position p xs)
position_last p xs x =
    position_from-zero p (xs ++ x ∷ []) ∙ position_at p 0 (length xs) xs x (omega arith)
    ∙ sym (ap (λ r. cond (p x) (Some (option_map_or (min (length xs)) r (length xs))) r) (position_from-zero p xs))
