-- Two lists side by side, whose elements are related at each place.
use Rattle.std.proofs.Common.{◌≡◌, ◌∙◌, sym, ap, refl, ℕ, zero, suc, ◌+◌, ◌<◌, List, [], ◌∷◌, ◌++◌, Some, All, length, take, get_or, slice_get, arith, subst}
use Rattle.std.specs.List.{AllZip}
use Rattle.std.proofs.lemmas.List.{take_more}
use Rattle.load_requests.proofs.AskingPlaces.{all_from}

pub zip_map : {A B : Type 0} (R S : A → B → Type 0) → ((x : A) (y : B) → R x y → S x y) → (xs : List A) (ys : List B) → AllZip R xs ys → AllZip S xs ys
zip_map R S f [] [] h = h
zip_map R S f [] (y ∷ ys) h = absurd h
zip_map R S f (x ∷ xs) [] h = absurd h
zip_map R S f (x ∷ xs) (y ∷ ys) h = (f x y h.0, zip_map R S f xs ys h.1)

pub zip_count : {A B : Type 0} (R : A → B → Type 0) (xs : List A) (ys : List B) → AllZip R xs ys → length ys ≡ length xs
zip_count R [] [] h = refl
zip_count R [] (y ∷ ys) h = absurd h
zip_count R (x ∷ xs) [] h = absurd h
zip_count R (x ∷ xs) (y ∷ ys) h = let rest = zip_count R xs ys h.1 in omega (arith, rest)

-- what stands beside an element
pub zip_there : {A B : Type 0} (R : A → B → Type 0) (xs : List A) (ys : List B) (k : ℕ) (x : A) → AllZip R xs ys → slice_get xs k ≡ Some x → (y : B) × (slice_get ys k ≡ Some y) × R x y
zip_there R [] ys k x h g = cc
zip_there R (z ∷ xs) [] k x h g = absurd h
zip_there R (z ∷ xs) (y ∷ ys) zero x h g =
    let same : z ≡ x = cc in
    (y, refl, subst (λ v. R v y) same h.0)
zip_there R (z ∷ xs) (y ∷ ys) (suc k) x h g = zip_there R xs ys k x h.1 g

pub zip_back : {A B : Type 0} (R : A → B → Type 0) (xs : List A) (ys : List B) (k : ℕ) (y : B) → AllZip R xs ys → slice_get ys k ≡ Some y → (x : A) × (slice_get xs k ≡ Some x) × R x y
zip_back R xs [] k y h g = cc
zip_back R [] (z ∷ ys) k y h g = absurd h
zip_back R (x ∷ xs) (z ∷ ys) zero y h g =
    let same : z ≡ y = cc in
    (x, refl, subst (λ v. R x v) same h.0)
zip_back R (x ∷ xs) (z ∷ ys) (suc k) y h g = zip_back R xs ys k y h.1 g

-- two relations at once
pub zip_with : {A B : Type 0} (R S T : A → B → Type 0) → ((x : A) (y : B) → R x y → S x y → T x y) → (xs : List A) (ys : List B) → AllZip R xs ys → AllZip S xs ys → AllZip T xs ys
zip_with R S T f [] [] h k = h
zip_with R S T f [] (y ∷ ys) h k = absurd h
zip_with R S T f (x ∷ xs) [] h k = absurd h
zip_with R S T f (x ∷ xs) (y ∷ ys) h k = (f x y h.0 k.0, zip_with R S T f xs ys h.1 k.1)

-- one list related to two others
pub zip_across : {A B C : Type 0} (R : A → B → Type 0) (S : A → C → Type 0) (T : B → C → Type 0) → ((x : A) (y : B) (z : C) → R x y → S x z → T y z) → (xs : List A) (ys : List B) (zs : List C) → AllZip R xs ys → AllZip S xs zs → AllZip T ys zs
zip_across R S T f [] [] [] h k = k
zip_across R S T f [] [] (z ∷ zs) h k = absurd k
zip_across R S T f [] (y ∷ ys) zs h k = absurd h
zip_across R S T f (x ∷ xs) [] zs h k = absurd h
zip_across R S T f (x ∷ xs) (y ∷ ys) [] h k = absurd k
zip_across R S T f (x ∷ xs) (y ∷ ys) (z ∷ zs) h k = (f x y z h.0 k.0, zip_across R S T f xs ys zs h.1 k.1)

-- and a list related to another that is related to a third
pub zip_through : {A B C : Type 0} (R : A → B → Type 0) (S : B → C → Type 0) (T : A → C → Type 0) → ((x : A) (y : B) (z : C) → R x y → S y z → T x z) → (xs : List A) (ys : List B) (zs : List C) → AllZip R xs ys → AllZip S ys zs → AllZip T xs zs
zip_through R S T f [] [] [] h k = k
zip_through R S T f [] [] (z ∷ zs) h k = absurd k
zip_through R S T f [] (y ∷ ys) zs h k = absurd h
zip_through R S T f (x ∷ xs) [] zs h k = absurd h
zip_through R S T f (x ∷ xs) (y ∷ ys) [] h k = absurd k
zip_through R S T f (x ∷ xs) (y ∷ ys) (z ∷ zs) h k = (f x y z h.0 k.0, zip_through R S T f xs ys zs h.1 k.1)

-- what holds of each on the right, where it follows from what is on the left
pub zip_right : {A B : Type 0} (R : A → B → Type 0) (P : B → Type 0) → ((x : A) (y : B) → R x y → P y) → (xs : List A) (ys : List B) → AllZip R xs ys → All P ys
zip_right R P f xs ys h = all_from P ys (λ k y g. let w = zip_back R xs ys k y h g in f w.0 y w.2)

pub zip_left : {A B : Type 0} (R : A → B → Type 0) (P : A → Type 0) → ((x : A) (y : B) → R x y → P x) → (xs : List A) (ys : List B) → AllZip R xs ys → All P xs
zip_left R P f xs ys h = all_from P xs (λ k x g. let w = zip_there R xs ys k x h g in f x w.0 w.2)

-- a relation where one side has a further property
pub zip_having : {A B : Type 0} (R S : A → B → Type 0) (P : B → Type 0) → ((x : A) (y : B) → R x y → P y → S x y) → (xs : List A) (ys : List B) → AllZip R xs ys → ((k : ℕ) (y : B) → slice_get ys k ≡ Some y → P y) → AllZip S xs ys
zip_having R S P f [] [] h all = h
zip_having R S P f [] (y ∷ ys) h all = absurd h
zip_having R S P f (x ∷ xs) [] h all = absurd h
zip_having R S P f (x ∷ xs) (y ∷ ys) h all = (f x y h.0 (all 0 y refl), zip_having R S P f xs ys h.1 (λ k z g. all (suc k) z g))

-- one more on each side
zip_push : {A B : Type 0} (R : A → B → Type 0) (xs : List A) (ys : List B) (x : A) (y : B) → AllZip R xs ys → R x y → AllZip R (xs ++ x ∷ []) (ys ++ y ∷ [])
zip_push R [] [] x y h r = (r, tt)
zip_push R [] (z ∷ ys) x y h r = absurd h
zip_push R (z ∷ xs) [] x y h r = absurd h
zip_push R (v ∷ xs) (w ∷ ys) x y h r = (h.0, zip_push R xs ys x y h.1 r)

pub zip_more : {A B : Type 0} (R : A → B → Type 0) (xs : List A) (ys : List B) (i : ℕ) (x : A) (y : B) → AllZip R (take i xs) ys → i < length xs → x ≡ get_or xs i x → R x y → AllZip R (take (i + 1) xs) (ys ++ y ∷ [])
zip_more {A} {B} R xs ys i x y h below named r =
    let front : take (i + 1) xs ≡ take i xs ++ x ∷ [] = take_more xs i x below ∙ ap (λ z. take i xs ++ z ∷ []) (sym named) in
    subst (λ zs. AllZip R zs (ys ++ y ∷ [])) (sym front) (zip_push R (take i xs) ys x y h r)
