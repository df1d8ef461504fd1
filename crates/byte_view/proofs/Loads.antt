-- Where no LOAD begins below the end of the one before it, at most one holds an address.
use Rattle.std.proofs.Common.{◌≡◌, ℕ, zero, suc, ◌<◌, ◌≤◌, Bool, true, false, cond, List, [], ◌∷◌, Option, Some, None, length, refl, arith, get_or, not}
use Rattle.std.specs.List.{filter, list_any, position_from}
use Rattle.std.proofs.lemmas.Bool.Decides.{nat_tests}
use Rattle.answers.specs.First.{first_some, some_where}
use Rattle.byte_view.specs.Checks.{flaw, flaw_at}
use Rattle.byte_view.specs.Headers.{headers, is_load, memory_end}
use Rattle.byte_view.specs.HeaderFlaws.{bad_range, falling, first_below, has_bad_range, header_flaw, ident_flaw, no_load, overlapping, segment_flaw, word_flaw}
use Rattle.byte_view.specs.declared.flaws.Flaw.{Flaw}
use Rattle.byte_view.specs.declared.flaws.TheConstants.{NO_LOAD, SEGMENT_OVERLAP, SEGMENT_RANGE}
use Rattle.byte_view.specs.Memory.{holds}
use Rattle.byte_view.specs.declared.segments.Segment.{Segment}
use Rattle.byte_view.specs.Sound.{AreSound}
use Rattle.byte_view.proofs.Found.{none_passes}

-- where no LOAD from here on begins below a bound, none holds an address below it
pub none_below : (i low addr : ℕ) (segments : List Segment) → first_below memory_end i low segments ≡ None → addr < low → filter (holds addr) segments ≡ []
unfolding first_below
none_below i low addr [] e h = refl
none_below i low addr (s ∷ rest) e h = grind (arith, nat_tests, none_below (suc i) low addr rest, none_below (suc i) (memory_end s) addr rest)

-- at most one holds an address
pub at_most_one : (i low addr : ℕ) (segments : List Segment) → first_below memory_end i low segments ≡ None → length (filter (holds addr) segments) ≤ 1
unfolding first_below
at_most_one i low addr [] e = omega arith
at_most_one i low addr (s ∷ rest) e = grind (arith, nat_tests, at_most_one (suc i) low addr rest, at_most_one (suc i) (memory_end s) addr rest, none_below (suc i) (memory_end s) addr rest)

-- from a bound on, each LOAD begins at it or above
pub none_lower : (i low : ℕ) (segments : List Segment) → first_below memory_end i low segments ≡ None → (k : ℕ) (d : Segment) → k < length (filter is_load segments) → low ≤ (get_or (filter is_load segments) k d).vaddr
unfolding first_below
none_lower i low [] e k d h = absurd (omega arith)
none_lower i low (s ∷ rest) e zero d h = grind (arith, nat_tests, none_lower (suc i) low rest, none_lower (suc i) (memory_end s) rest)
none_lower i low (s ∷ rest) e (suc k) d h = grind (arith, nat_tests, none_lower (suc i) low rest, none_lower (suc i) (memory_end s) rest)

-- what stands behind a LOAD is not below its end, and what stands behind another header not below the bound
after_load : (i low : ℕ) (s : Segment) (rest : List Segment) → first_below memory_end i low (s ∷ rest) ≡ None → is_load s ≡ true → first_below memory_end (suc i) (memory_end s) rest ≡ None
unfolding first_below
after_load i low s rest e h = grind (arith, nat_tests)

after_other : (i low : ℕ) (s : Segment) (rest : List Segment) → first_below memory_end i low (s ∷ rest) ≡ None → is_load s ≡ false → first_below memory_end (suc i) low rest ≡ None
unfolding first_below
after_other i low s rest e h = rw h at e

-- the LOADs of a list with one more in front
loads_after : (s : Segment) (rest : List Segment) (b : Bool) → is_load s ≡ b → filter is_load (s ∷ rest) ≡ cond b (s ∷ filter is_load rest) (filter is_load rest)
loads_after s rest b h = rw h refl

abbrev AreSo : Segment → List Segment → ℕ → ℕ → Type 0
AreSo d loads j k = j < k → k < length loads → memory_end (get_or loads j d) ≤ (get_or loads k d).vaddr

pub pairs_apart : (i low : ℕ) (segments : List Segment) → first_below memory_end i low segments ≡ None → (j k : ℕ) (d : Segment) → j < k → k < length (filter is_load segments) → memory_end (get_or (filter is_load segments) j d) ≤ (get_or (filter is_load segments) k d).vaddr
pairs_apart i low [] e j k d l h = absurd (omega arith)
pairs_apart i low (s ∷ rest) e j k d l h =
    go (is_load s) refl (λ f j k. pairs_apart (suc i) (memory_end s) rest f j k d) (λ f j k. pairs_apart (suc i) low rest f j k d) j k l h
  where
    go : (b : Bool) → is_load s ≡ b → (first_below memory_end (suc i) (memory_end s) rest ≡ None → (j k : ℕ) → AreSo d (filter is_load rest) j k) → (first_below memory_end (suc i) low rest ≡ None → (j k : ℕ) → AreSo d (filter is_load rest) j k) → (j k : ℕ) → AreSo d (cond b (s ∷ filter is_load rest) (filter is_load rest)) j k
    go true b behind others j zero l h = absurd (omega arith)
    go true b behind others zero (suc k) l h = none_lower (suc i) (memory_end s) rest (after_load i low s rest e b) k d (omega arith)
    go true b behind others (suc j) (suc k) l h = behind (after_load i low s rest e b) j k (omega arith) (omega arith)
    go false b behind others j k l h = others (after_other i low s rest e b) j k l h

-- where no check found a flaw, the first found none, and the others neither
pub none_first : (x : Option Flaw) (more : List (Option Flaw)) → first_some (x ∷ more) ≡ None → (x ≡ None) × (first_some more ≡ None)
none_first None more e = (refl, e)
none_first (Some f) more e = absurd (cc)

none_overlaps : (segments : List Segment) → overlapping segments ≡ None → first_below memory_end 0 0 segments ≡ None
none_overlaps segments e = go (first_below memory_end 0 0 segments) e
  where
    go : (o : Option ℕ) → flaw_at SEGMENT_OVERLAP o ≡ None → o ≡ None
    go None e = refl
    go (Some i) e = absurd (cc)

none_bad : (len : ℕ) (segments : List Segment) → bad_range len segments ≡ None → position_from (has_bad_range len) 0 segments ≡ None
none_bad len segments e = go (position_from (has_bad_range len) 0 segments) e
  where
    go : (o : Option ℕ) → flaw_at SEGMENT_RANGE o ≡ None → o ≡ None
    go None e = refl
    go (Some i) e = absurd (cc)

some_load : (segments : List Segment) → no_load segments ≡ None → list_any is_load segments ≡ true
some_load segments e = go (list_any is_load segments) e
  where
    go : (b : Bool) → some_where (not b) (flaw NO_LOAD 0 0) ≡ None → b ≡ true
    go true e = refl
    go false e = absurd (cc)

pub sound_segments : (len : ℕ) (segments : List Segment) → segment_flaw len segments ≡ None → AreSound len segments
unfolding segment_flaw
sound_segments len segments e =
    let bad = none_first (bad_range len segments) (no_load segments ∷ falling segments ∷ overlapping segments ∷ []) e in
    let load = none_first (no_load segments) (falling segments ∷ overlapping segments ∷ []) bad.1 in
    let fall = none_first (falling segments) (overlapping segments ∷ []) load.1 in
    let overlap = none_overlaps segments (none_first (overlapping segments) [] fall.1).0 in
    record {
      mappable = none_passes (has_bad_range len) 0 segments (none_bad len segments bad.0);
      loaded = some_load segments load.0;
      apart = λ i j d l h. (omega (arith, pairs_apart 0 0 segments overlap i j d l h), pairs_apart 0 0 segments overlap i j d l h);
      one = record { one = λ addr. at_most_one 0 0 addr segments overlap };
    }

pub sound_file : (file : List ℕ) → header_flaw file ≡ None → AreSound (length file) (headers file)
unfolding header_flaw
sound_file file e =
    let ident = none_first (ident_flaw file) (word_flaw file ∷ segment_flaw (length file) (headers file) ∷ []) e in
    let word = none_first (word_flaw file) (segment_flaw (length file) (headers file) ∷ []) ident.1 in
    sound_segments (length file) (headers file) (none_first (segment_flaw (length file) (headers file)) [] word.1).0
