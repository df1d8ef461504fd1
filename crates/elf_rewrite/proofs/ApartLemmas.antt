-- Tables that share no place with what is written
use Rattle.std.proofs.Common.{◌≡◌, ℕ, zero, suc, ◌<◌, ◌||◌, Bool, true, false, cond, List, [], ◌∷◌, Some, None, refl, sym, subst, arith}
use Rattle.std.specs.Prelude.{slice_get}
use Rattle.std.specs.List.{find, flat_map, list_any, range_with_len}
use Rattle.std.proofs.lemmas.Bool.Decides.{nat_tests}
use Rattle.load_model.proofs.Counts.{slice_get_left}
use Rattle.load_model.proofs.History.{at_second}
use Rattle.load_model.proofs.Places.{any_here}
use Rattle.two_files.specs.Kept.{Range}
use Rattle.elf_rewrite.specs.Ranges.{asked_ranges, first_overlap, first_pair, meets, need_ranges, overlaps, pairs_of, ranges_of, share, shares_within, tables}
use Rattle.elf_rewrite.specs.declared.numbering.TheConstants.{HEADER, SECTIONS}

pub none_in : {X : Type 0} (p : X → Bool) (xs : List X) (i : ℕ) (x : X) → find p xs ≡ None → slice_get xs i ≡ Some x → p x ≡ false
none_in p [] i x e h = absurd (cc)
none_in p (y ∷ ys) zero x e h = let same : y ≡ x = cc in subst (λ z. p z ≡ false) same (go (p y) refl e)
  where
    go : (b : Bool) → p y ≡ b → cond b (Some y) (find p ys) ≡ None → p y ≡ false
    go true t e = absurd (cc)
    go false t e = t
none_in p (y ∷ ys) (suc i) x e h = none_in p ys i x (go (p y) e) h
  where
    go : (b : Bool) → cond b (Some y) (find p ys) ≡ None → find p ys ≡ None
    go true e = absurd (cc)
    go false e = e

abbrev pub all_pairs : List (ℕ × ℕ)
all_pairs = flat_map (λ m. pairs_of m) (range_with_len HEADER SECTIONS)

no_overlap : (b : List ℕ) (i m n : ℕ) → first_overlap b ≡ None → slice_get all_pairs i ≡ Some (m, n) → overlaps (tables b) (need_ranges b) (asked_ranges b) m n ≡ false
unfolding first_overlap first_pair
no_overlap b i m n e h = none_in (λ p. overlaps (tables b) (need_ranges b) (asked_ranges b) p.0 p.1) all_pairs i (m, n) e h

-- no range of one list meets one of another
pub record ShareNone (rs ss : List Range) : Type 0 where
  pub apart : (i j : ℕ) (r s : Range) → slice_get rs i ≡ Some r → slice_get ss j ≡ Some s → meets r s ≡ false

two_apart : (rs ss : List Range) (i j : ℕ) (r s : Range) → share rs ss ≡ false → slice_get rs i ≡ Some r → slice_get ss j ≡ Some s → meets r s ≡ false
two_apart rs ss i j r s e hr hs = go (meets r s) refl
  where
    go : (b : Bool) → meets r s ≡ b → meets r s ≡ false
    go true t = absurd (
        let any : list_any (λ s. meets r s) ss ≡ true = any_here (λ s. meets r s) ss j s hs t in
        let all : share rs ss ≡ true = any_here (λ r. list_any (λ s. meets r s) ss) rs i r hr any in
        cc
        )
    go false t = t

pub shared_apart : (rs ss : List Range) → share rs ss ≡ false → ShareNone rs ss
shared_apart rs ss e = record { apart = λ i j r s hr hs. two_apart rs ss i j r s e hr hs }

pub meets_flip : (r s : Range) → meets r s ≡ false → meets s r ≡ false
meets_flip r s h = grind (arith, nat_tests)

flipped : (rs ss : List Range) → share rs ss ≡ false → ShareNone ss rs
flipped rs ss e = record { apart = λ i j r s hr hs. meets_flip s r (two_apart rs ss j i s r e hs hr) }

-- of the ranges of their table needs are the first, and what is asked comes behind them
needs_first : (b : List ℕ) (ss : List Range) → ShareNone (ranges_of b 8) ss → ShareNone (need_ranges b) ss
unfolding ranges_of
needs_first b ss a = record { apart = λ i j r s hr hs. a.apart i j r s (slice_get_left (need_ranges b) (asked_ranges b) i r hr) hs }

asked_last : (b : List ℕ) (rs : List Range) → ShareNone rs (ranges_of b 8) → ShareNone rs (asked_ranges b)
unfolding ranges_of
asked_last b rs a = record { apart = λ i j r s hr hs. let there = at_second (need_ranges b) (asked_ranges b) j s hs in a.apart i there.0 r s hr there.1 }

-- what two of one list do that share no place
within_apart : (rs : List Range) (i j : ℕ) (r s : Range) → shares_within rs ≡ false → slice_get rs i ≡ Some r → slice_get rs j ≡ Some s → i < j → meets r s ≡ false
within_apart [] i j r s e hr hs h = absurd (cc)
within_apart (x ∷ xs) zero zero r s e hr hs h = absurd (omega arith)
within_apart (x ∷ xs) zero (suc j) r s e hr hs h = let same : x ≡ r = cc in go (meets r s) refl same
  where
    go : (b : Bool) → meets r s ≡ b → x ≡ r → meets r s ≡ false
    go true t same = absurd (
        let any : list_any (λ s. meets x s) xs ≡ true = any_here (λ s. meets x s) xs j s hs (subst (λ y. meets y s ≡ true) (sym same) t) in
        grind (arith, nat_tests)
        )
    go false t same = t
within_apart (x ∷ xs) (suc i) zero r s e hr hs h = absurd (omega arith)
within_apart (x ∷ xs) (suc i) (suc j) r s e hr hs h = within_apart xs i j r s (rest (list_any (λ s. meets x s) xs) e) hr hs (omega arith)
  where
    rest : (b : Bool) → (b || shares_within xs) ≡ false → shares_within xs ≡ false
    rest true e = absurd (cc)
    rest false e = e

-- a table that shares no place with what may be written
pub record StandsApart (b : List ℕ) (ss : List Range) : Type 0 where
  pub header : ShareNone (ranges_of b 1) ss
  pub table : ShareNone (ranges_of b 4) ss
  pub needs : ShareNone (need_ranges b) ss

pub segments_apart : (b : List ℕ) → first_overlap b ≡ None → StandsApart b (ranges_of b 2)
segments_apart b e = record {
  header = shared_apart (ranges_of b 1) (ranges_of b 2) (no_overlap b 1 1 2 e refl);
  table = flipped (ranges_of b 2) (ranges_of b 4) (no_overlap b 14 2 4 e refl);
  needs = needs_first b (ranges_of b 2) (flipped (ranges_of b 2) (ranges_of b 8) (no_overlap b 18 2 8 e refl));
}

pub interp_apart : (b : List ℕ) → first_overlap b ≡ None → StandsApart b (ranges_of b 3)
interp_apart b e = record {
  header = shared_apart (ranges_of b 1) (ranges_of b 3) (no_overlap b 2 1 3 e refl);
  table = flipped (ranges_of b 3) (ranges_of b 4) (no_overlap b 24 3 4 e refl);
  needs = needs_first b (ranges_of b 3) (flipped (ranges_of b 3) (ranges_of b 8) (no_overlap b 28 3 8 e refl));
}

pub strings_apart : (b : List ℕ) → first_overlap b ≡ None → StandsApart b (ranges_of b 5)
strings_apart b e = record {
  header = shared_apart (ranges_of b 1) (ranges_of b 5) (no_overlap b 4 1 5 e refl);
  table = shared_apart (ranges_of b 4) (ranges_of b 5) (no_overlap b 34 4 5 e refl);
  needs = needs_first b (ranges_of b 5) (flipped (ranges_of b 5) (ranges_of b 8) (no_overlap b 45 5 8 e refl));
}

pub symbols_apart : (b : List ℕ) → first_overlap b ≡ None → StandsApart b (ranges_of b 6)
symbols_apart b e = record {
  header = shared_apart (ranges_of b 1) (ranges_of b 6) (no_overlap b 5 1 6 e refl);
  table = shared_apart (ranges_of b 4) (ranges_of b 6) (no_overlap b 35 4 6 e refl);
  needs = needs_first b (ranges_of b 6) (flipped (ranges_of b 6) (ranges_of b 8) (no_overlap b 52 6 8 e refl));
}

pub versym_apart : (b : List ℕ) → first_overlap b ≡ None → StandsApart b (ranges_of b 7)
versym_apart b e = record {
  header = shared_apart (ranges_of b 1) (ranges_of b 7) (no_overlap b 6 1 7 e refl);
  table = shared_apart (ranges_of b 4) (ranges_of b 7) (no_overlap b 36 4 7 e refl);
  needs = needs_first b (ranges_of b 7) (flipped (ranges_of b 7) (ranges_of b 8) (no_overlap b 58 7 8 e refl));
}

pub verdef_apart : (b : List ℕ) → first_overlap b ≡ None → StandsApart b (ranges_of b 9)
verdef_apart b e = record {
  header = shared_apart (ranges_of b 1) (ranges_of b 9) (no_overlap b 8 1 9 e refl);
  table = shared_apart (ranges_of b 4) (ranges_of b 9) (no_overlap b 38 4 9 e refl);
  needs = needs_first b (ranges_of b 9) (shared_apart (ranges_of b 8) (ranges_of b 9) (no_overlap b 64 8 9 e refl));
}

pub sysv_apart : (b : List ℕ) → first_overlap b ≡ None → StandsApart b (ranges_of b 10)
sysv_apart b e = record {
  header = shared_apart (ranges_of b 1) (ranges_of b 10) (no_overlap b 9 1 10 e refl);
  table = shared_apart (ranges_of b 4) (ranges_of b 10) (no_overlap b 39 4 10 e refl);
  needs = needs_first b (ranges_of b 10) (shared_apart (ranges_of b 8) (ranges_of b 10) (no_overlap b 65 8 10 e refl));
}

pub gnu_apart : (b : List ℕ) → first_overlap b ≡ None → StandsApart b (ranges_of b 11)
gnu_apart b e = record {
  header = shared_apart (ranges_of b 1) (ranges_of b 11) (no_overlap b 10 1 11 e refl);
  table = shared_apart (ranges_of b 4) (ranges_of b 11) (no_overlap b 40 4 11 e refl);
  needs = needs_first b (ranges_of b 11) (shared_apart (ranges_of b 8) (ranges_of b 11) (no_overlap b 66 8 11 e refl));
}

pub sections_apart : (b : List ℕ) → first_overlap b ≡ None → StandsApart b (ranges_of b 12)
sections_apart b e = record {
  header = shared_apart (ranges_of b 1) (ranges_of b 12) (no_overlap b 11 1 12 e refl);
  table = shared_apart (ranges_of b 4) (ranges_of b 12) (no_overlap b 41 4 12 e refl);
  needs = needs_first b (ranges_of b 12) (shared_apart (ranges_of b 8) (ranges_of b 12) (no_overlap b 67 8 12 e refl));
}

-- the ELF header and what is written behind it; needs and the dynamic table
pub table_behind : (b : List ℕ) → first_overlap b ≡ None → ShareNone (ranges_of b 1) (ranges_of b 4)
table_behind b e = shared_apart (ranges_of b 1) (ranges_of b 4) (no_overlap b 3 1 4 e refl)

pub needs_behind : (b : List ℕ) → first_overlap b ≡ None → ShareNone (ranges_of b 1) (ranges_of b 8)
needs_behind b e = shared_apart (ranges_of b 1) (ranges_of b 8) (no_overlap b 7 1 8 e refl)

pub needs_beside : (b : List ℕ) → first_overlap b ≡ None → ShareNone (ranges_of b 4) (ranges_of b 8)
needs_beside b e = shared_apart (ranges_of b 4) (ranges_of b 8) (no_overlap b 37 4 8 e refl)

-- needs share no place with one another, nor with what is asked
both_off : (a b : Bool) → (a || b) ≡ false → (a ≡ false) × (b ≡ false)
both_off true b e = absurd (cc)
both_off false b e = (refl, e)

pub needs_apart : (b : List ℕ) (i j : ℕ) (r s : Range) → first_overlap b ≡ None → slice_get (need_ranges b) i ≡ Some r → slice_get (need_ranges b) j ≡ Some s → i < j → meets r s ≡ false
needs_apart b i j r s e hr hs h =
    within_apart (need_ranges b) i j r s (both_off (shares_within (need_ranges b)) (share (need_ranges b) (asked_ranges b)) (no_overlap b 63 8 8 e refl)).0 hr hs h

pub asked_apart : (b : List ℕ) → first_overlap b ≡ None → StandsApart b (asked_ranges b)
asked_apart b e = record {
  header = asked_last b (ranges_of b 1) (needs_behind b e);
  table = asked_last b (ranges_of b 4) (needs_beside b e);
  needs = shared_apart (need_ranges b) (asked_ranges b) (both_off (shares_within (need_ranges b)) (share (need_ranges b) (asked_ranges b)) (no_overlap b 63 8 8 e refl)).1;
}
