-- The first of several things, in lists that are gone through in order.
use Rattle.std.proofs.Common.{◌≡◌, ◌∙◌, sym, ap, refl, ℕ, ◌+◌, ◌<◌, ◌≤◌, List, [], ◌∷◌, ◌++◌, Option, Some, None, Result, Ok, Err, drop, get_or, length, map}
use Rattle.std.specs.Prelude.{IfErr, IfOk}
use Rattle.std.specs.List.{flat_map}
use Rattle.answers.specs.First.{first_some}
use Rattle.lib_closure.proofs.PlaceLemmas.{drop_all, drop_read, first_here, first_over, first_passed, none_then, some_then}

pub behind : {A : Type 0} (xs ys : List (Option A)) → first_some xs ≡ None → first_some (xs ++ ys) ≡ first_some ys
behind [] ys none = refl
behind (None ∷ xs) ys none = behind xs ys none
behind (Some x ∷ xs) ys none = absurd (cc)

pub in_front : {A : Type 0} (xs ys : List (Option A)) (a : A) → first_some xs ≡ Some a → first_some (xs ++ ys) ≡ Some a
in_front [] ys a is = absurd (cc)
in_front (None ∷ xs) ys a is = in_front xs ys a is
in_front (Some x ∷ xs) ys a is = is

module _ {X A : Type 0} (f : X → Option A) (xs : List X) (i : ℕ) (whole : Option A) where
  -- An element that gives nothing is passed over.
  pub passed : (x : X) → i < length xs → x ≡ get_or xs i x → None ≡ f x → first_some (map f (drop i xs)) ≡ whole → first_some (map f (drop (i + 1) xs)) ≡ whole
  passed x less at none rest = sym (first_passed f xs i x less at (sym none)) ∙ rest

  -- One that gives something is the first.
  pub found : (x : X) (a : A) → i < length xs → x ≡ get_or xs i x → Some a ≡ f x → first_some (map f (drop i xs)) ≡ whole → Some a ≡ whole
  found x a less at some rest = sym (first_here f xs i x a less at (sym some)) ∙ rest

  pub over : length xs ≤ i → first_some (map f (drop i xs)) ≡ whole → None ≡ whole
  over all rest = sym (first_over f xs i all) ∙ rest

-- The same where each element gives several.
module _ {X A : Type 0} (f : X → List (Option A)) (xs : List X) (i : ℕ) (whole : Option A) where
  opened : (x : X) → i < length xs → x ≡ get_or xs i x → first_some (flat_map f (drop i xs)) ≡ first_some (f x ++ flat_map f (drop (i + 1) xs))
  opened x less at = ap (λ ys. first_some (flat_map f ys)) (drop_read xs i x less at)

  pub all_passed : (x : X) → i < length xs → x ≡ get_or xs i x → None ≡ first_some (f x) → first_some (flat_map f (drop i xs)) ≡ whole → first_some (flat_map f (drop (i + 1) xs)) ≡ whole
  all_passed x less at none rest = sym (behind (f x) (flat_map f (drop (i + 1) xs)) (sym none)) ∙ sym (opened x less at) ∙ rest

  pub one_found : (x : X) (a : A) → i < length xs → x ≡ get_or xs i x → Some a ≡ first_some (f x) → first_some (flat_map f (drop i xs)) ≡ whole → Some a ≡ whole
  one_found x a less at some rest = sym (in_front (f x) (flat_map f (drop (i + 1) xs)) a (sym some)) ∙ sym (opened x less at) ∙ rest

  pub all_over : length xs ≤ i → first_some (flat_map f (drop i xs)) ≡ whole → None ≡ whole
  all_over all rest = sym (ap (λ ys. first_some (flat_map f ys)) (drop_all xs i all)) ∙ rest

-- ---- lists one behind the other

pub leads : {A : Type 0} (xs ys : List (Option A)) (a : A) → Some a ≡ first_some xs → Some a ≡ first_some (xs ++ ys)
leads xs ys a h = sym (in_front xs ys a (sym h))

pub past : {A : Type 0} (xs ys : List (Option A)) (o : Option A) → None ≡ first_some xs → o ≡ first_some ys → o ≡ first_some (xs ++ ys)
past xs ys o none h = h ∙ sym (behind xs ys (sym none))

-- ---- one thing in front of others

pub here : {A : Type 0} (o : Option A) (a : A) (more : List (Option A)) → Some a ≡ o → Some a ≡ first_some (o ∷ more)
here o a more h = sym (some_then o a more (sym h))

pub next : {A : Type 0} (o : Option A) (more : List (Option A)) (whole : Option A) → None ≡ o → whole ≡ first_some more → whole ≡ first_some (o ∷ more)
next o more whole none h = h ∙ sym (none_then o more (sym none))

pub ok_more : {T E : Type 0} (r : Result T E) (P Q : T → Type 0) → ((x : T) → P x → Q x) → IfOk r P → IfOk r Q
ok_more (Ok x) P Q f h = f x h
ok_more (Err e) P Q f h = tt

pub err_more : {T E : Type 0} (r : Result T E) (P Q : E → Type 0) → ((x : E) → P x → Q x) → IfErr r P → IfErr r Q
err_more (Ok x) P Q f h = tt
err_more (Err e) P Q f h = f e h
