-- Where cuts of a text fall: at a byte, and at the spaces of an end.
use Rattle.std.proofs.Common.{◌≡◌, ◌≢◌, ◌∙◌, sym, ap, refl, subst, append_assoc, append-nil, ℕ, List, [], ◌∷◌, ◌++◌, Bool, true, false, eqb}
use Rattle.std.specs.Prelude.{not}
use Rattle.std.specs.List.{list_all}
use Rattle.std.proofs.lemmas.Bool.{and_from, and_parts, both_ways, eqb-true, not-true}
use Rattle.std.proofs.lemmas.List.Elements.{All-nil, All-cons, All-head, All-tail, All-append}
use Rattle.desk_entry.specs.Cuts.{IsEnd, IsFree, IsStart}
use Rattle.desk_entry.specs.Lines.{AreSpaces, begins_with, ends_in_another}

-- ---- a byte that is not there

-- bytes of a kind that this one is not of
pub free_of : (kind : ℕ → Bool) (x : ℕ) (t : List ℕ) → kind x ≡ false → list_all kind t ≡ true → IsFree x t
free_of kind x [] unlike h = All-nil (λ c. c ≢ x)
free_of kind x (c ∷ t) unlike h =
    let w = and_parts (kind c) (list_all kind t) h in
    All-cons (λ y. y ≢ x) c t (λ e. both_ways (kind x) unlike (ap kind (sym e) ∙ w.0)) (free_of kind x t unlike w.1)

pub free_byte : (x c : ℕ) → (c ≡ x → ⊥) → IsFree x (c ∷ [])
free_byte x c h = All-cons (λ y. y ≢ x) c [] h (All-nil (λ y. y ≢ x))

pub free_both : (x : ℕ) (s t : List ℕ) → IsFree x s → IsFree x t → IsFree x (s ++ t)
free_both x s t p q = All-append (λ y. y ≢ x) s t p q

pub stands : (x : ℕ) (s t : List ℕ) → IsFree x (s ++ x ∷ t) → ⊥
stands x [] t p = All-head (λ y. y ≢ x) x t p refl
stands x (c ∷ s) t p = stands x s t (All-tail (λ y. y ≢ x) c (s ++ x ∷ t) p)

-- the first such byte is at one place
pub one_cut : (x : ℕ) (a b c d : List ℕ) → IsFree x a → IsFree x c → a ++ x ∷ b ≡ c ++ x ∷ d → (a ≡ c) × (b ≡ d)
one_cut x [] b [] d p q e = (refl, cc)
one_cut x [] b (z ∷ c) d p q e = absurd (All-head (λ y. y ≢ x) z c q cc)
one_cut x (z ∷ a) b [] d p q e = absurd (All-head (λ y. y ≢ x) z a p cc)
one_cut x (y ∷ a) b (z ∷ c) d p q e =
    let w = one_cut x a b c d (All-tail (λ k. k ≢ x) y a p) (All-tail (λ k. k ≢ x) z c q) cc in
    let same : y ≡ z = cc in
    (ap (λ k. k ∷ a) same ∙ ap (λ ks. z ∷ ks) w.0, w.1)

-- ---- spaces

pub spaces_both : (s t : List ℕ) → AreSpaces s → AreSpaces t → AreSpaces (s ++ t)
spaces_both [] t p q = q
spaces_both (c ∷ s) t p q =
    let w = and_parts (eqb c 32) (list_all (λ x. eqb x 32) s) p in
    and_from (eqb c 32) (list_all (λ x. eqb x 32) (s ++ t)) w.0 (spaces_both s t w.1 q)

spaces_tail : (c : ℕ) (s : List ℕ) → AreSpaces (c ∷ s) → AreSpaces s
spaces_tail c s p = (and_parts (eqb c 32) (list_all (λ x. eqb x 32) s) p).1

space_head : (c : ℕ) (s : List ℕ) → AreSpaces (c ∷ s) → eqb c 32 ≡ true
space_head c s p = (and_parts (eqb c 32) (list_all (λ x. eqb x 32) s) p).0

-- what follows the spaces at the beginning
pub one_end : (s r t q : List ℕ) → AreSpaces s → AreSpaces t → begins_with 32 r ≡ false → begins_with 32 q ≡ false → s ++ r ≡ t ++ q → r ≡ q
one_end [] r [] q p o a b e = e
one_end [] r (c ∷ t) q p o a b e =
    absurd (both_ways (begins_with 32 r) a (ap (begins_with 32) e ∙ space_head c t o))
one_end (c ∷ s) r [] q p o a b e =
    absurd (both_ways (begins_with 32 q) b (ap (begins_with 32) (sym e) ∙ space_head c s p))
one_end (c ∷ s) r (d ∷ t) q p o a b e = one_end s r t q (spaces_tail c s p) (spaces_tail d t o) a b cc

ends_tail : (c : ℕ) (k : List ℕ) → ends_in_another 32 (c ∷ k) ≡ true → ends_in_another 32 k ≡ true
ends_tail c [] h = refl
ends_tail c (d ∷ k) h = h

no_spaces : (d : ℕ) (l t : List ℕ) → AreSpaces ((d ∷ l) ++ t) → ends_in_another 32 (d ∷ l) ≡ true → ⊥
no_spaces d [] t h k = both_ways (eqb d 32) (not-true (eqb d 32) k) (space_head d t h)
no_spaces d (c ∷ l) t h k = no_spaces c l t (spaces_tail d ((c ∷ l) ++ t) h) k

-- what stands before the spaces at the end
pub one_start : (k s l t : List ℕ) → AreSpaces s → AreSpaces t → ends_in_another 32 k ≡ true → ends_in_another 32 l ≡ true → k ++ s ≡ l ++ t → k ≡ l
one_start [] s [] t p o a b e = refl
one_start [] s (d ∷ l) t p o a b e = absurd (no_spaces d l t (subst AreSpaces e p) b)
one_start (c ∷ k) s [] t p o a b e = absurd (no_spaces c k s (subst AreSpaces (sym e) o) a)
one_start (c ∷ k) s (d ∷ l) t p o a b e =
    let same : c ≡ d = cc in
    ap (λ x. x ∷ k) same ∙ ap (λ xs. d ∷ xs) (one_start k s l t p o (ends_tail c k a) (ends_tail d l b) cc)

-- ---- the last byte

pub ends_behind : (x : ℕ) (a : List ℕ) (c : ℕ) → not (eqb c x) ≡ true → ends_in_another x (a ++ c ∷ []) ≡ true
ends_behind x [] c h = h
ends_behind x (y ∷ []) c h = h
ends_behind x (y ∷ z ∷ a) c h = ends_behind x (z ∷ a) c h

other_byte : (x c : ℕ) (kind : ℕ → Bool) (b : Bool) → kind x ≡ false → kind c ≡ true → eqb c x ≡ b → not b ≡ true
other_byte x c kind true unlike alike e = absurd (both_ways (kind x) unlike (ap kind (sym (eqb-true c x e)) ∙ alike))
other_byte x c kind false unlike alike e = refl

pub ends_of : (kind : ℕ → Bool) (x : ℕ) (t : List ℕ) → kind x ≡ false → list_all kind t ≡ true → ends_in_another x t ≡ true
ends_of kind x [] unlike h = refl
ends_of kind x (c ∷ []) unlike h = other_byte x c kind (eqb c x) unlike (and_parts (kind c) true h).0 refl
ends_of kind x (c ∷ d ∷ t) unlike h = ends_of kind x (d ∷ t) unlike (and_parts (kind c) (list_all kind (d ∷ t)) h).1

-- ---- one space more

-- spaces, and what follows them so far
pub record IsBeyond (text rest : List ℕ) : Type 0 where
  pub spaces : List ℕ
  pub are_spaces : AreSpaces spaces
  pub whole : text ≡ spaces ++ rest

pub none_yet : (text : List ℕ) → IsBeyond text text
none_yet text = record { spaces = []; are_spaces = refl; whole = refl }

pub beyond_one : (text rest more : List ℕ) → IsBeyond text rest → rest ≡ 32 ∷ more → IsBeyond text more
beyond_one text rest more b e = record {
  spaces = b.spaces ++ 32 ∷ [];
  are_spaces = spaces_both b.spaces (32 ∷ []) b.are_spaces refl;
  whole = b.whole ∙ (ap (λ t. b.spaces ++ t) e ∙ sym (append_assoc b.spaces (32 ∷ []) more));
}

pub all_beyond : (text rest : List ℕ) → IsBeyond text rest → begins_with 32 rest ≡ false → IsEnd text rest
all_beyond text rest b h = record { spaces = b.spaces; are_spaces = b.are_spaces; no_more = h; whole = b.whole }

-- what stands before spaces so far, and the spaces
pub record IsUpTo (text rest : List ℕ) : Type 0 where
  pub spaces : List ℕ
  pub are_spaces : AreSpaces spaces
  pub whole : text ≡ rest ++ spaces

pub all_yet : (text : List ℕ) → IsUpTo text text
all_yet text = record { spaces = []; are_spaces = refl; whole = sym (append-nil text) }

pub up_to_one : (text rest more : List ℕ) → IsUpTo text rest → rest ≡ more ++ 32 ∷ [] → IsUpTo text more
up_to_one text rest more b e = record {
  spaces = 32 ∷ b.spaces;
  are_spaces = b.are_spaces;
  whole = b.whole ∙ (ap (λ t. t ++ b.spaces) e ∙ append_assoc more (32 ∷ []) b.spaces);
}

ends_so : (x c : ℕ) (b : Bool) → eqb c x ≡ b → (c ∷ [] ≡ x ∷ [] → ⊥) → not b ≡ true
ends_so x c true e unlike = absurd (unlike (ap (λ y. y ∷ []) (eqb-true c x e)))
ends_so x c false e unlike = refl

ends_unless : (x : ℕ) (text : List ℕ) → ((rest : List ℕ) → text ≡ rest ++ x ∷ [] → ⊥) → ends_in_another x text ≡ true
ends_unless x [] unlike = refl
ends_unless x (c ∷ []) unlike = ends_so x c (eqb c x) refl (unlike [])
ends_unless x (c ∷ d ∷ text) unlike = ends_unless x (d ∷ text) (λ rest e. unlike (c ∷ rest) (ap (λ t. c ∷ t) e))

pub all_up_to : (text rest : List ℕ) → IsUpTo text rest → ((more : List ℕ) → rest ≡ more ++ 32 ∷ [] → ⊥) → IsStart text rest
all_up_to text rest b unlike = record { spaces = b.spaces; are_spaces = b.are_spaces; no_more = ends_unless 32 rest unlike; whole = b.whole }
