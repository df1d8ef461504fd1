-- The reach of a GNU hash table without a flaw, without a bound by the length of the file.
use Rattle.std.proofs.Common.{◌≡◌, ◌≢◌, ℕ, zero, suc, ◌+◌, ◌<◌, ◌≤◌, ◌==◌, ◌&&◌, not, Bool, true, false, cond, List, Option, Some, None, is_some, length, refl, sym, ap, ◌∙◌, arith}
use Rattle.std.specs.Prelude.{nat_lt}
use Rattle.std.specs.List.{find, range_with_len}
use Rattle.std.specs.Option.{option_map}
use Rattle.std.proofs.lemmas.Bool.Decides.{nat_tests}
use Rattle.answers.specs.First.{some_where}
use Rattle.byte_view.specs.Checks.{flaw}
use Rattle.byte_view.specs.declared.constants.TheConstants.{DT_GNU_HASH}
use Rattle.byte_view.specs.declared.flaws.TheConstants.{HASH_RANGE}
use Rattle.byte_view.specs.declared.segments.Segment.{Segment}
use Rattle.load_model.specs.GnuTable.{chain_word, gnu_buckets, gnu_place, gnu_reach, gnu_table, greatest, has_end, is_gnu_sound, is_last, last_from}
use Rattle.load_model.specs.SymbolFlaws.{bad_gnu, is_gnu_whole}
use Rattle.sym_tables.specs.LeastEnds.{IsLeastEnd}

-- the first of some numbers that passes
record IsFirst (p : ℕ → Bool) (a i : ℕ) : Type 0 where
  above : a ≤ i
  yes : p i ≡ true
  before : (j : ℕ) → a ≤ j → j < i → p j ≡ false

found_first : (p : ℕ → Bool) (a n i : ℕ) → find p (range_with_len a n) ≡ Some i → IsFirst p a i
found_first p a zero i e = absurd (cc)
found_first p a (suc n) i e = go (p a) refl e (found_first p (a + 1) n i)
  where
    go : (b : Bool) → p a ≡ b → cond b (Some a) (find p (range_with_len (a + 1) n)) ≡ Some i → (find p (range_with_len (a + 1) n) ≡ Some i → IsFirst p (a + 1) i) → IsFirst p a i
    go true k e later =
        let same : a ≡ i = cc in
        record { above = omega arith; yes = ap p (sym same) ∙ k; before = λ j l h. absurd (omega arith) }
    go false k e later =
        let rest : IsFirst p (a + 1) i = later e in
        record { above = omega (arith, rest.above); yes = rest.yes; before = λ j l h. here rest j l h (j == a) refl }
      where
        here : IsFirst p (a + 1) i → (j : ℕ) → a ≤ j → j < i → (b : Bool) → (j == a) ≡ b → p j ≡ false
        here rest j l h true m = let same : j ≡ a = grind (arith, nat_tests) in ap p same ∙ k
        here rest j l h false m = rest.before j (grind (arith, nat_tests)) h

one_first : (p : ℕ → Bool) (a i j : ℕ) → IsFirst p a i → IsFirst p a j → i ≡ j
one_first p a i j f g = go (nat_lt i j) refl (nat_lt j i) refl
  where
    go : (b : Bool) → nat_lt i j ≡ b → (c : Bool) → nat_lt j i ≡ c → i ≡ j
    go true k c m = absurd (let yes = f.yes in let no : p i ≡ false = g.before i f.above (grind (arith, nat_tests)) in cc)
    go false k true m = absurd (let yes = g.yes in let no : p j ≡ false = f.before j g.above (grind (arith, nat_tests)) in cc)
    go false k false m = grind (arith, nat_tests)

-- a table without a flaw whose buckets are not all 0 has a reach
whole : (b : Bool) → some_where (not b) (flaw HASH_RANGE DT_GNU_HASH 0) ≡ None → b ≡ true
whole true e = refl
whole false e = absurd (cc)

middle : (a b c : Bool) → (a && (b && c)) ≡ true → b ≡ true
middle true true c e = refl
middle true false c e = absurd (cc)
middle false b c e = absurd (cc)

above_end : (file : List ℕ) (segments : List Segment) (addr : ℕ) → bad_gnu file segments (Some addr) ≡ None → greatest (gnu_buckets file segments addr) ≢ 0 → is_some (gnu_reach file segments addr) ≡ true
above_end file segments addr e h =
    let ended : has_end (gnu_buckets file segments addr) (gnu_reach file segments addr) ≡ true = middle (is_some (gnu_place file segments addr)) (has_end (gnu_buckets file segments addr) (gnu_reach file segments addr)) (is_gnu_sound (gnu_table file segments addr)) (whole (is_gnu_whole file segments addr) e) in
    let no : (greatest (gnu_buckets file segments addr) == 0) ≡ false = grind (arith, nat_tests) in
    rw no at ended

reach_by : (file : List ℕ) (segments : List Segment) (addr : ℕ) → greatest (gnu_buckets file segments addr) ≢ 0 → gnu_reach file segments addr ≡ option_map (λ i. i + 1) (last_from file segments addr (greatest (gnu_buckets file segments addr)))
unfolding gnu_reach
reach_by file segments addr h =
    let no : (greatest (gnu_buckets file segments addr) == 0) ≡ false = grind (arith, nat_tests) in
    rw no refl

pub no_reach_of_none : (file : List ℕ) (segments : List Segment) (addr : ℕ) → greatest (gnu_buckets file segments addr) ≡ 0 → gnu_reach file segments addr ≡ None
unfolding gnu_reach
no_reach_of_none file segments addr e = rw e refl

-- the last symbol of the chain at the greatest bucket is the least
last_least : (file : List ℕ) (segments : List Segment) (addr from last : ℕ) → last_from file segments addr from ≡ Some last → IsLeastEnd file segments addr from last
unfolding last_from
last_least file segments addr from last e =
    let first : IsFirst (λ i. is_last (chain_word file segments addr i)) from last = found_first (λ i. is_last (chain_word file segments addr i)) from (length file) last e in
    record { above = first.above; odd = first.yes; least = first.before }

-- a reach is one more than a number
one_more : (o : Option ℕ) (last : ℕ) → option_map (λ i. i + 1) o ≡ Some (last + 1) → o ≡ Some last
one_more None last e = absurd (cc)
one_more (Some k) last e = let more : k + 1 ≡ last + 1 = cc in let same : k ≡ last = omega arith in ap Some same

pub record HasEnd (file : List ℕ) (segments : List Segment) (addr : ℕ) : Type 0 where
  pub last : ℕ
  pub reach : gnu_reach file segments addr ≡ Some (last + 1)
  pub least : IsLeastEnd file segments addr (greatest (gnu_buckets file segments addr)) last

pub end_there : (file : List ℕ) (segments : List Segment) (addr : ℕ) → bad_gnu file segments (Some addr) ≡ None → greatest (gnu_buckets file segments addr) ≢ 0 → HasEnd file segments addr
end_there file segments addr e h = go (last_from file segments addr (greatest (gnu_buckets file segments addr))) refl
  where
    go : (o : Option ℕ) → last_from file segments addr (greatest (gnu_buckets file segments addr)) ≡ o → HasEnd file segments addr
    go None f = absurd (let some = above_end file segments addr e h in let none : gnu_reach file segments addr ≡ None = reach_by file segments addr h ∙ ap (option_map (λ i. i + 1)) f in let no : is_some (gnu_reach file segments addr) ≡ false = rw none refl in cc)
    go (Some last) f = record {
      last = last;
      reach = reach_by file segments addr h ∙ ap (option_map (λ i. i + 1)) f;
      least = last_least file segments addr (greatest (gnu_buckets file segments addr)) last f;
    }

pub reach_least : (file : List ℕ) (segments : List Segment) (addr last : ℕ) → greatest (gnu_buckets file segments addr) ≢ 0 → gnu_reach file segments addr ≡ Some (last + 1) → IsLeastEnd file segments addr (greatest (gnu_buckets file segments addr)) last
reach_least file segments addr last h e =
    last_least file segments addr (greatest (gnu_buckets file segments addr)) last (one_more (last_from file segments addr (greatest (gnu_buckets file segments addr))) last (sym (reach_by file segments addr h) ∙ e))

pub least_reach : (file : List ℕ) (segments : List Segment) (addr last : ℕ) → bad_gnu file segments (Some addr) ≡ None → greatest (gnu_buckets file segments addr) ≢ 0 → IsLeastEnd file segments addr (greatest (gnu_buckets file segments addr)) last → gnu_reach file segments addr ≡ Some (last + 1)
least_reach file segments addr last e h is =
    let there : HasEnd file segments addr = end_there file segments addr e h in
    let same : there.last ≡ last = one_first (λ i. is_last (chain_word file segments addr i)) (greatest (gnu_buckets file segments addr)) there.last last (record { above = there.least.above; yes = there.least.odd; before = there.least.least }) (record { above = is.above; yes = is.odd; before = is.least }) in
    there.reach ∙ ap (λ i. Some (i + 1)) same
