-- The first of several that may be there, and files one after the other.
use Rattle.std.proofs.Common.{◌≡◌, ◌∙◌, sym, ap, refl, subst, ℕ, suc, zero, ◌+◌, List, [], ◌∷◌, ◌++◌, Option, Some, None, map, take, slice_get}
use Rattle.std.specs.List.{AllZip}
use Rattle.std.proofs.lemmas.List.{take_more}
use Rattle.std.proofs.lemmas.Option.{get_or_from_slice_get, slice_get_within}
use Rattle.answers.specs.First.{first_some}

none_head : {A : Type 0} (o : Option A) (more : List (Option A)) → first_some (o ∷ more) ≡ None → (o ≡ None) × (first_some more ≡ None)
none_head None more h = (refl, h)
none_head (Some a) more h = cc

stays_first : {A : Type 0} (o : Option A) (more other : List (Option A)) (s : A) → (first_some more ≡ Some s → first_some other ≡ Some s) → first_some (o ∷ more) ≡ Some s → first_some (o ∷ other) ≡ Some s
stays_first None more other s k h = k h
stays_first (Some a) more other s k h = h

-- Where none of the first is there, the first is that of the others.
none_before : {X A : Type 0} (f : X → Option A) (xs ys : List X) → first_some (map f xs) ≡ None → first_some (map f (xs ++ ys)) ≡ first_some (map f ys)
none_before f [] ys h = refl
none_before f (x ∷ xs) ys h =
    let parts = none_head (f x) (map f xs) h in
    ap (λ o. first_some (o ∷ map f (xs ++ ys))) parts.0 ∙ none_before f xs ys parts.1

one_more : {X : Type 0} (xs : List X) (n : ℕ) (x : X) → slice_get xs n ≡ Some x → take (n + 1) xs ≡ take n xs ++ (x ∷ [])
one_more xs n x h =
    take_more xs n x (slice_get_within xs n x h) ∙ ap (λ y. take n xs ++ (y ∷ [])) (get_or_from_slice_get xs n x x h)

up_to_all : {X : Type 0} (xs : List X) (n : ℕ) (x : X) → slice_get xs n ≡ Some x → (more : List X) × (xs ≡ take n xs ++ (x ∷ more))
up_to_all [] n x h = cc
up_to_all (y ∷ ys) zero x h = (ys, cc)
up_to_all (y ∷ ys) (suc n) x h = let rest = up_to_all ys n x h in (rest.0, ap (λ t. y ∷ t) rest.1)

-- One that is there behind those that are not is the first of all.
pub first_there : {X A : Type 0} (f : X → Option A) (xs : List X) (n : ℕ) (x : X) (s : A) → first_some (map f (take n xs)) ≡ None → slice_get xs n ≡ Some x → f x ≡ Some s → first_some (map f xs) ≡ Some s
first_there f xs n x s h g e =
    let all = up_to_all xs n x g in
    ap (λ t. first_some (map f t)) all.1 ∙ (none_before f (take n xs) (x ∷ all.0) h ∙ ap (λ o. first_some (o ∷ map f all.0)) e)

pub none_more : {X A : Type 0} (f : X → Option A) (xs : List X) (n : ℕ) (x : X) → first_some (map f (take n xs)) ≡ None → slice_get xs n ≡ Some x → f x ≡ None → first_some (map f (take (n + 1) xs)) ≡ None
none_more f xs n x h g e =
    ap (λ t. first_some (map f t)) (one_more xs n x g) ∙ (none_before f (take n xs) (x ∷ []) h ∙ ap (λ o. first_some (o ∷ [])) e)

zip_push : {A B : Type 0} (R : A → B → Type 0) (xs : List A) (ys : List B) (x : A) (y : B) → AllZip R xs ys → R x y → AllZip R (xs ++ (x ∷ [])) (ys ++ (y ∷ []))
zip_push R [] [] x y h r = (r, tt)
zip_push R [] (z ∷ ys) x y h r = absurd h
zip_push R (z ∷ xs) [] x y h r = absurd h
zip_push R (z ∷ xs) (w ∷ ys) x y h r = (h.0, zip_push R xs ys x y h.1 r)

map_push : {X Y : Type 0} (f : X → Y) (xs : List X) (x : X) → map f (xs ++ (x ∷ [])) ≡ map f xs ++ (f x ∷ [])
map_push f [] x = refl
map_push f (y ∷ xs) x = ap (λ t. f y ∷ t) (map_push f xs x)

pub zip_more : {A X B : Type 0} (R : A → B → Type 0) (f : X → B) (items : List A) (xs : List X) (n : ℕ) (item : A) (x : X) → AllZip R items (map f (take n xs)) → slice_get xs n ≡ Some x → R item (f x) → AllZip R (items ++ (item ∷ [])) (map f (take (n + 1) xs))
zip_more R f items xs n item x h g r =
    subst (λ t. AllZip R (items ++ (item ∷ [])) t) (sym (ap (map f) (one_more xs n x g) ∙ map_push f (take n xs) x)) (zip_push R items (map f (take n xs)) item (f x) h r)

pub zip_both : {A B : Type 0} (R : A → B → Type 0) (xs others : List A) (ys more : List B) → AllZip R xs ys → AllZip R others more → AllZip R (xs ++ others) (ys ++ more)
zip_both R [] others [] more h r = r
zip_both R [] others (z ∷ ys) more h r = absurd h
zip_both R (z ∷ xs) others [] more h r = absurd h
zip_both R (z ∷ xs) others (w ∷ ys) more h r = (h.0, zip_both R xs others ys more h.1 r)

-- The first of two, and the first of these and of more.
pub two_none : {A : Type 0} (a b : Option A) (more : List (Option A)) → None ≡ first_some (a ∷ b ∷ []) → first_some (a ∷ b ∷ more) ≡ first_some more
two_none None None more h = refl
two_none None (Some b) more h = cc
two_none (Some a) b more h = cc

pub two_some : {A : Type 0} (a b : Option A) (more : List (Option A)) (s : A) → Some s ≡ first_some (a ∷ b ∷ []) → Some s ≡ first_some (a ∷ b ∷ more)
two_some None None more s h = cc
two_some None (Some b) more s h = h
two_some (Some a) b more s h = h
