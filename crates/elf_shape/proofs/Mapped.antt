-- Lists of keys and the lists of texts that they hold
use Rattle.std.proofs.Common.{◌≡◌, ℕ, Bool, true, false, cond, ◌||◌, ◌+◌, List, [], ◌∷◌, ◌++◌, length, map, bytes_eq, refl, ap, sym, ◌∙◌}
use Rattle.std.specs.Prelude.{nat_lt, not, position, Some, None}
use Rattle.std.specs.List.{list_any, prefix_len}
use Rattle.std.proofs.lemmas.List.{map-append, length-map}
use Rattle.elf_shape.specs.Distinct.{with_text}

any-of-map : {X Y : Type 0} (p : Y → Bool) (f : X → Y) (xs : List X) → list_any p (map f xs) ≡ list_any (λ x. p (f x)) xs
any-of-map p f [] = refl
any-of-map p f (x ∷ xs) = ap (λ b. p (f x) || b) (any-of-map p f xs)

prefix-of-map : {X Y : Type 0} (p : Y → Bool) (f : X → Y) (xs : List X) → prefix_len p (map f xs) ≡ prefix_len (λ x. p (f x)) xs
prefix-of-map p f [] = refl
prefix-of-map p f (x ∷ xs) = ap (λ n. cond (p (f x)) (1 + n) 0) (prefix-of-map p f xs)

-- the place of a text is that of its key
pub position-of-map : {X Y : Type 0} (p : Y → Bool) (f : X → Y) (xs : List X) → position p (map f xs) ≡ position (λ x. p (f x)) xs
position-of-map p f xs =
    ap (λ n. cond (nat_lt n (length (map f xs))) (Some n) None) (prefix-of-map (λ y. not (p y)) f xs)
    ∙ ap (λ m. cond (nat_lt (prefix_len (λ x. not (p (f x))) xs) m) (Some (prefix_len (λ x. not (p (f x))) xs)) None) (length-map xs f)

chosen : {X Y : Type 0} (f : X → Y) (keys : List X) (k : X) (b : Bool) → map f (cond b keys (keys ++ k ∷ [])) ≡ cond b (map f keys) (map f keys ++ f k ∷ [])
chosen f keys k true = refl
chosen f keys k false = map-append f keys (k ∷ [])

-- the texts after a key joined them, unless it was there
pub added : {X : Type 0} (f : X → List ℕ) (keys after : List X) (k : X) → after ≡ cond (list_any (λ x. bytes_eq (f k) (f x)) keys) keys (keys ++ k ∷ []) → map f after ≡ with_text (map f keys) (f k)
added f keys after k a =
    ap (map f) a
    ∙ (chosen f keys k (list_any (λ x. bytes_eq (f k) (f x)) keys)
    ∙ ap (λ b. cond b (map f keys) (map f keys ++ f k ∷ [])) (sym (any-of-map (λ t. bytes_eq (f k) t) f keys)))

-- the same where the texts and the text are known by other names
pub added_to : {X : Type 0} (f : X → List ℕ) (keys after : List X) (k : X) (old : List (List ℕ)) (text : List ℕ) → map f keys ≡ old → f k ≡ text → after ≡ cond (list_any (λ x. bytes_eq (f k) (f x)) keys) keys (keys ++ k ∷ []) → map f after ≡ with_text old text
added_to f keys after k old text e v a = added f keys after k a ∙ (ap (λ ts. with_text ts (f k)) e ∙ ap (λ t. with_text old t) v)
