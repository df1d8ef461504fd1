-- A GNU hash table from its parts.
use Rattle.std.proofs.Common.{◌≡◌, ℕ, ◌+◌, ◌*◌, ◌≤◌, ◌&&◌, ◌||◌, ◌==◌, Bool, true, false, List, [], Some, None, is_some, length, refl, sym, ◌∙◌, arith}
use Rattle.std.specs.Prelude.{nat_le, nat_lt}
use Rattle.std.specs.Int.{is_power_of_two}
use Rattle.std.specs.List.{list_all}
use Rattle.std.proofs.lemmas.Bool.Decides.{nat_tests}
use Rattle.byte_view.specs.Memory.{range_in}
use Rattle.byte_view.specs.Sound.{IsReadFrom}
use Rattle.byte_view.specs.declared.constants.TheConstants.{DT_GNU_HASH}
use Rattle.byte_view.specs.Checks.{flaw}
use Rattle.byte_view.specs.declared.segments.Segment.{Segment}
use Rattle.byte_view.proofs.Ranges.{IsRead}
use Rattle.load_model.specs.GnuTable.{chains_from, gnu_buckets, gnu_place, gnu_reach, gnu_size, gnu_table, has_end, is_gnu_sound, symoffset, words_below}
use Rattle.load_model.specs.SymbolFlaws.{bad_gnu, is_gnu_whole}
use Rattle.load_model.specs.TableWords.{words_in}
use Rattle.sym_tables.specs.FileWords.{words_at}
use Rattle.sym_tables.specs.FoundTables.{front_table}
use Rattle.sym_tables.specs.Places.{HasNoReach, IsFrontOf, IsReachOf}
use Rattle.sym_tables.specs.Runs.{AreStarts, IsUsable}
use Rattle.sym_tables.specs.declared.gnu_front.Front.{Front}
use Rattle.sym_tables.specs.declared.gnu_reach.Reach.{Reach}
use Rattle.sym_tables.proofs.Backing.{none_longer, range_there, words_there}
use Rattle.byte_view.specs.declared.flaws.TheConstants.{HASH_RANGE}

both : (a b : Bool) → (a && b) ≡ true → (a ≡ true) × (b ≡ true)
both true true e = (refl, refl)
both true false e = absurd (cc)
both false b e = absurd (cc)

pub usable : (f : Front) (words starts : List ℕ) → is_gnu_sound (front_table f []) ≡ true → AreStarts starts words → IsUsable f.shift f.bloom.items f.buckets.items words starts
unfolding is_gnu_sound
usable f words starts e a =
    let bucket = both (nat_le 1 (length f.buckets.items)) (is_power_of_two (length f.bloom.items) && (nat_lt f.shift 32 && list_all (λ b. (b == 0) || nat_le f.offset b) f.buckets.items)) e in
    let filter = both (is_power_of_two (length f.bloom.items)) (nat_lt f.shift 32 && list_all (λ b. (b == 0) || nat_le f.offset b) f.buckets.items) bucket.1 in
    let shift = both (nat_lt f.shift 32) (list_all (λ b. (b == 0) || nat_le f.offset b) f.buckets.items) filter.1 in
    record {
      little = let h : nat_lt f.shift 32 ≡ true = shift.0 in grind (arith, nat_tests);
      filter = filter.0;
      some = let h : nat_le 1 (length f.buckets.items) ≡ true = bucket.0 in grind (arith, nat_tests);
      begins = a;
    }

-- buckets of a sound table are 0 or begin chains
pub sound_buckets : (f : Front) → is_gnu_sound (front_table f []) ≡ true → list_all (λ b. (b == 0) || nat_le f.offset b) f.buckets.items ≡ true
unfolding is_gnu_sound
sound_buckets f e =
    let bucket = both (nat_le 1 (length f.buckets.items)) (is_power_of_two (length f.bloom.items) && (nat_lt f.shift 32 && list_all (λ b. (b == 0) || nat_le f.offset b) f.buckets.items)) e in
    let filter = both (is_power_of_two (length f.bloom.items)) (nat_lt f.shift 32 && list_all (λ b. (b == 0) || nat_le f.offset b) f.buckets.items) bucket.1 in
    (both (nat_lt f.shift 32) (list_all (λ b. (b == 0) || nat_le f.offset b) f.buckets.items) filter.1).1

-- soundness asks nothing of the chain words
pub sound_is : (file : List ℕ) (segments : List Segment) (addr : ℕ) (f : Front) → IsFrontOf f file segments addr → is_gnu_sound (front_table f []) ≡ is_gnu_sound (gnu_table file segments addr)
unfolding is_gnu_sound gnu_table
sound_is file segments addr f front = rw (front.offset, front.shift, front.bloom, front.buckets) refl

pub words_within : (file : List ℕ) (segments : List Segment) (addr len from to : ℕ) → IsReadFrom segments file → range_in segments addr len ≡ Some (from, to) → from + len ≤ length file
words_within file segments addr len from to r e =
    let read : IsRead file segments addr len (from, to) = range_there segments file addr len (from, to) r e in
    omega (arith, read.ends, read.within)

pub size_is : (file : List ℕ) (segments : List Segment) (addr : ℕ) (f : Front) (r : Reach) → IsFrontOf f file segments addr → IsReachOf r file segments addr → range_in segments addr (f.size + 4 * r.words) ≡ gnu_place file segments addr
unfolding gnu_place
size_is file segments addr f r front reach = rw (front.size, reach.words) refl

-- the table that was put together is that of memory
pub table_there : (file : List ℕ) (segments : List Segment) (addr from to : ℕ) (f : Front) (r : Reach) (words : List ℕ) → IsReadFrom segments file → IsFrontOf f file segments addr → IsReachOf r file segments addr → range_in segments addr (f.size + 4 * r.words) ≡ Some (from, to) → words ≡ words_at 4 file (from + f.size) r.words → front_table f words ≡ gnu_table file segments addr
unfolding gnu_table
table_there file segments addr from to f r words read front reach e made =
    let there : IsRead file segments addr (f.size + 4 * r.words) (from, to) = range_there segments file addr (f.size + 4 * r.words) (from, to) read e in
    let same : words_in 4 file segments (addr + f.size) r.words ≡ words_at 4 file (from + f.size) r.words = words_there 4 file segments addr (f.size + 4 * r.words) f.size r.words (from, to) there (omega arith) in
    let mem : words_in 4 file segments (addr + chains_from file segments addr) (words_below (symoffset file segments addr) (gnu_reach file segments addr)) ≡ words = rw (← front.size, ← reach.words) (same ∙ sym made) in
    rw (front.offset, front.shift, front.bloom, front.buckets, mem) refl

-- what is wrong with a table
whole_without : (file : List ℕ) (segments : List Segment) (addr : ℕ) → is_gnu_whole file segments addr ≡ false → bad_gnu file segments (Some addr) ≡ Some (flaw HASH_RANGE DT_GNU_HASH 0)
whole_without file segments addr e = rw e refl

three_false : (a b c : Bool) → (a && b) ≡ false → (a && (b && c)) ≡ false
three_false true true c e = absurd (cc)
three_false true false c e = refl
three_false false b c e = refl

last_false : (a b c : Bool) → c ≡ false → (a && (b && c)) ≡ false
last_false true true c e = e
last_false true false c e = refl
last_false false b c e = refl

pub gnu_cut : (file : List ℕ) (segments : List Segment) (addr : ℕ) → range_in segments addr (chains_from file segments addr) ≡ None → bad_gnu file segments (Some addr) ≡ Some (flaw HASH_RANGE DT_GNU_HASH 0)
unfolding gnu_place
gnu_cut file segments addr e =
    let none : range_in segments addr (gnu_size file segments addr) ≡ None = none_longer segments addr (chains_from file segments addr) (gnu_size file segments addr) (omega arith) (omega arith) e in
    let whole : is_gnu_whole file segments addr ≡ false = rw none refl in
    whole_without file segments addr whole

pub gnu_unsound : (file : List ℕ) (segments : List Segment) (addr : ℕ) (f : Front) → IsFrontOf f file segments addr → is_gnu_sound (front_table f []) ≡ false → bad_gnu file segments (Some addr) ≡ Some (flaw HASH_RANGE DT_GNU_HASH 0)
gnu_unsound file segments addr f front e =
    let sound : is_gnu_sound (gnu_table file segments addr) ≡ false = sym (sound_is file segments addr f front) ∙ e in
    whole_without file segments addr (last_false (is_some (gnu_place file segments addr)) (has_end (gnu_buckets file segments addr) (gnu_reach file segments addr)) (is_gnu_sound (gnu_table file segments addr)) sound)

pub gnu_unended : (file : List ℕ) (segments : List Segment) (addr : ℕ) → HasNoReach file segments addr → bad_gnu file segments (Some addr) ≡ Some (flaw HASH_RANGE DT_GNU_HASH 0)
gnu_unended file segments addr e =
    whole_without file segments addr (three_false (is_some (gnu_place file segments addr)) (has_end (gnu_buckets file segments addr) (gnu_reach file segments addr)) (is_gnu_sound (gnu_table file segments addr)) e)

pub gnu_whole : (file : List ℕ) (segments : List Segment) (addr : ℕ) (f : Front) (r : Reach) → IsFrontOf f file segments addr → IsReachOf r file segments addr → is_gnu_sound (front_table f []) ≡ true → bad_gnu file segments (Some addr) ≡ None
gnu_whole file segments addr f r front reach e =
    let sound : is_gnu_sound (gnu_table file segments addr) ≡ true = sym (sound_is file segments addr f front) ∙ e in
    let whole : is_gnu_whole file segments addr ≡ true = rw (reach.backed, reach.ended, sound) refl in
    rw whole refl
