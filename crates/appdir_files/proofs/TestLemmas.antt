-- Tests, and what a list has that passes one.
use Rattle.std.proofs.Common.{◌≡◌, ℕ, Bool, true, false, cond, ◌||◌, ◌&&◌, ◌⊎◌, inl, inr, List, [], ◌∷◌, ◌++◌, bytes_eq, refl, ap, sym, ◌∙◌}
use Rattle.std.specs.List.{list_any}
use Rattle.std.proofs.lemmas.List.Folds.{list_any-append}
use Rattle.std.proofs.lemmas.Slice.Eq.{bytes_eq-Decides}
use Rattle.indexmap.specs.IndexSet.{insert_key}

pub both_true : (a b : Bool) → (a ≡ true → b ≡ true) → (b ≡ true → a ≡ true) → a ≡ b
both_true true true f g = refl
both_true false false f g = refl
both_true true false f g = sym (f refl)
both_true false true f g = g refl

pub or_cases : (a b : Bool) → (a || b) ≡ true → (a ≡ true) ⊎ (b ≡ true)
or_cases true b h = inl refl
or_cases false b h = inr h

pub or_left : (a b : Bool) → a ≡ true → (a || b) ≡ true
or_left true b h = refl
or_left false b h = absurd (cc)

pub or_right : (a b : Bool) → b ≡ true → (a || b) ≡ true
or_right true b h = refl
or_right false b h = h

pub or_none : (a : Bool) → (a || false) ≡ a
or_none true = refl
or_none false = refl

pub or_assoc : (a b c : Bool) → ((a || b) || c) ≡ (a || (b || c))
or_assoc true b c = refl
or_assoc false b c = refl

pub and_parts : (a b : Bool) → (a && b) ≡ true → (a ≡ true) × (b ≡ true)
and_parts true b h = (refl, h)
and_parts false b h = absurd (cc)

pub and_both : (a b : Bool) → a ≡ true → b ≡ true → (a && b) ≡ true
and_both true b e h = h
and_both false b e h = absurd (cc)

pub not_both : (b : Bool) → b ≡ true → b ≡ false → ⊥
not_both true e h = cc
not_both false e h = cc

pub or_swap : (a b c d : Bool) → ((a || b) || (c || d)) ≡ ((a || c) || (b || d))
or_swap true b true d = refl
or_swap true b false d = refl
or_swap false true true d = refl
or_swap false true false d = refl
or_swap false false c d = refl

pub same_text : (a b : List ℕ) → bytes_eq a b ≡ true → a ≡ b
same_text a b h = (bytes_eq-Decides a b).0 h

pub is_same : (a b : List ℕ) → a ≡ b → bytes_eq a b ≡ true
is_same a b e = (bytes_eq-Decides a b).1 e

pub text_sym : (a b : List ℕ) → bytes_eq a b ≡ bytes_eq b a
text_sym a b = both_true (bytes_eq a b) (bytes_eq b a) (λ h. is_same b a (sym (same_text a b h))) (λ h. is_same a b (sym (same_text b a h)))

-- an element that passes a test, and each test that it passes the list passes
pub record Passing {X : Type 0} (p : X → Bool) (xs : List X) : Type 0 where
  pub it : X
  pub passes : p it ≡ true
  pub there : (q : X → Bool) → q it ≡ true → list_any q xs ≡ true

passing_in : {X : Type 0} (p : X → Bool) (x : X) (xs : List X) → Passing p xs → Passing p (x ∷ xs)
passing_in p x xs h = record { it = h.it; passes = h.passes; there = λ q e. or_right (q x) (list_any q xs) (h.there q e) }

pub passing : {X : Type 0} (p : X → Bool) (xs : List X) → list_any p xs ≡ true → Passing p xs
passing p [] h = absurd (cc)
passing p (x ∷ xs) h = elim (or_cases (p x) (list_any p xs) h) [
  | inl e ↦ record { it = x; passes = e; there = λ q f. or_left (q x) (list_any q xs) f }
  | inr e ↦ passing_in p x xs (passing p xs e)
]

-- lists that have the same texts pass the same tests
pub same_tests : {X : Type 0} (f : X → List ℕ) (xs : List X) (texts : List (List ℕ)) (p : List ℕ → Bool) → ((t : List ℕ) → list_any (bytes_eq t) texts ≡ list_any (λ x. bytes_eq t (f x)) xs) → list_any p texts ≡ list_any (λ x. p (f x)) xs
same_tests {X} f xs texts p h = both_true (list_any p texts) (list_any (λ x. p (f x)) xs)
    (λ e.
    let one : Passing p texts = passing p texts e in
    let here : list_any (λ x. bytes_eq one.it (f x)) xs ≡ true = sym (h one.it) ∙ one.there (bytes_eq one.it) (is_same one.it one.it refl) in
    let other : Passing (λ (x : X). bytes_eq one.it (f x)) xs = passing (λ (x : X). bytes_eq one.it (f x)) xs here in
    other.there (λ x. p (f x)) (ap p (sym (same_text one.it (f other.it) other.passes)) ∙ one.passes))
    (λ e.
    let one : Passing (λ (x : X). p (f x)) xs = passing (λ (x : X). p (f x)) xs e in
    let here : list_any (bytes_eq (f one.it)) texts ≡ true = h (f one.it) ∙ one.there (λ x. bytes_eq (f one.it) (f x)) (is_same (f one.it) (f one.it) refl) in
    let other : Passing (bytes_eq (f one.it)) texts = passing (bytes_eq (f one.it)) texts here in
    other.there p (ap p (sym (same_text (f one.it) other.it other.passes)) ∙ one.passes))

-- three tests, each of all elements, or all three of each
pub any_three : {X : Type 0} (p q r : X → Bool) (xs : List X) → list_any (λ x. p x || (q x || r x)) xs ≡ (list_any p xs || (list_any q xs || list_any r xs))
any_three p q r [] = refl
any_three p q r (x ∷ xs) =
    ap (λ b. (p x || (q x || r x)) || b) (any_three p q r xs)
    ∙ (or_swap (p x) (q x || r x) (list_any p xs) (list_any q xs || list_any r xs)
    ∙ ap (λ b. (p x || list_any p xs) || b) (or_swap (q x) (r x) (list_any q xs) (list_any r xs)))

joined_by : (name text : List ℕ) (texts : List (List ℕ)) (b : Bool) → list_any (bytes_eq text) texts ≡ b → list_any (bytes_eq name) (cond b texts (texts ++ text ∷ [])) ≡ (list_any (bytes_eq name) texts || bytes_eq text name)
joined_by name text texts true h = both_true (list_any (bytes_eq name) texts) (list_any (bytes_eq name) texts || bytes_eq text name)
    (λ e. or_left (list_any (bytes_eq name) texts) (bytes_eq text name) e)
    (λ e. elim (or_cases (list_any (bytes_eq name) texts) (bytes_eq text name) e) [
      | inl here ↦ here
      | inr same ↦ ap (λ t. list_any (bytes_eq t) texts) (sym (same_text text name same)) ∙ h
    ])
joined_by name text texts false h =
    list_any-append (bytes_eq name) texts (text ∷ [])
    ∙ ap (λ c. list_any (bytes_eq name) texts || c) (or_none (bytes_eq name text) ∙ text_sym name text)

-- a text that joined the list is there
pub joined_any : (name text : List ℕ) (texts : List (List ℕ)) → list_any (bytes_eq name) (insert_key bytes_eq texts text) ≡ (list_any (bytes_eq name) texts || bytes_eq text name)
joined_any name text texts = joined_by name text texts (list_any (bytes_eq text) texts) refl
