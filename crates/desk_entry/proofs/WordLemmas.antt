-- The text before the first of a byte.
use Rattle.std.proofs.Common.{◌≡◌, ◌≢◌, ◌∙◌, sym, ap, refl, ℕ, suc, ◌+◌, List, [], ◌∷◌, ◌++◌, Bool, true, false, eqb, take, arith, cond}
use Rattle.std.specs.Prelude.{not}
use Rattle.std.specs.List.{before_first, list_any, prefix_len}
use Rattle.std.proofs.lemmas.Bool.{eq-eqb, ne_eqb, or_right}
use Rattle.std.proofs.lemmas.List.Elements.{All-head, All-tail}
use Rattle.desk_entry.specs.Cuts.{IsFree}
use Rattle.desk_entry.specs.Entries.{first_word, quoted_word}
use Rattle.desk_entry.specs.Lines.{begins_with}

-- a byte that is another
one_more : (x c : ℕ) (t : List ℕ) → eqb c x ≡ false → before_first (λ y. eqb y x) (c ∷ t) ≡ c ∷ before_first (λ y. eqb y x) t
one_more x c t e =
    let n = prefix_len (λ y. not (eqb y x)) t in
    let long : 1 + n ≡ suc n = omega arith in
    rw e (ap (λ k. take k (c ∷ t)) long)

at_it : (x : ℕ) (b : List ℕ) → before_first (λ y. eqb y x) (x ∷ b) ≡ []
at_it x b = rw (eq-eqb x x refl) refl

pub before_it : (x : ℕ) (a b : List ℕ) → IsFree x a → before_first (λ c. eqb c x) (a ++ x ∷ b) ≡ a
before_it x [] b p = at_it x b
before_it x (c ∷ a) b p =
    one_more x c (a ++ x ∷ b) (ne_eqb c x (All-head (λ y. y ≢ x) c a p))
    ∙ ap (λ t. c ∷ t) (before_it x a b (All-tail (λ y. y ≢ x) c a p))

pub nothing_before : (x : ℕ) (t : List ℕ) → IsFree x t → before_first (λ c. eqb c x) t ≡ t
nothing_before x [] p = refl
nothing_before x (c ∷ t) p =
    one_more x c t (ne_eqb c x (All-head (λ y. y ≢ x) c t p))
    ∙ ap (λ s. c ∷ s) (nothing_before x t (All-tail (λ y. y ≢ x) c t p))

pub is_there : (x : ℕ) (a b : List ℕ) → list_any (λ c. eqb c x) (a ++ x ∷ b) ≡ true
is_there x [] b = rw (eq-eqb x x refl) refl
is_there x (c ∷ a) b = rw (is_there x a b) (or_right (eqb c x) true refl)

pub is_not_there : (x : ℕ) (t : List ℕ) → IsFree x t → list_any (λ c. eqb c x) t ≡ false
is_not_there x [] p = refl
is_not_there x (c ∷ t) p = rw (ne_eqb c x (All-head (λ y. y ≢ x) c t p)) (is_not_there x t (All-tail (λ y. y ≢ x) c t p))

-- ---- words in quotes

pub quoted_at : (value rest word more : List ℕ) (b : Bool) → IsFree 34 word → rest ≡ word ++ 34 ∷ more → list_any (λ c. eqb c 92) word ≡ b → quoted_word value rest ≡ cond (not b) word value
quoted_at value rest word more b free e h =
    let w = ap (before_first (λ c. eqb c 34)) e ∙ before_it 34 word more free in
    let there = ap (list_any (λ c. eqb c 34)) e ∙ is_there 34 word more in
    rw (there, w, h) refl

pub quoted_not : (value rest : List ℕ) → IsFree 34 rest → quoted_word value rest ≡ value
quoted_not value rest free = rw (is_not_there 34 rest free) refl

pub word_in_quotes : (value rest : List ℕ) → value ≡ 34 ∷ rest → first_word value ≡ quoted_word value rest
word_in_quotes value rest e = ap first_word e ∙ ap (λ v. quoted_word v rest) (sym e)

pub plain_word : (value : List ℕ) → begins_with 34 value ≡ false → first_word value ≡ before_first (λ c. eqb c 32) value
plain_word value h = rw h refl
