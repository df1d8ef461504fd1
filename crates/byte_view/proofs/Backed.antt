-- What is read through memory where a segment backs it: the file's bytes at its place.
use Rattle.std.proofs.Common.{◌≡◌, ℕ, zero, suc, ◌+◌, ◌-◌, ◌<◌, ◌≤◌, Bool, true, false, List, [], ◌∷◌, Some, length, get_or, take, drop, map, refl, arith, drop-cons}
use Rattle.std.specs.Prelude.{slice_get}
use Rattle.std.specs.List.{filter, find, range_with_len}
use Rattle.std.specs.Option.{unwrap_or}
use Rattle.std.proofs.lemmas.Bool.Decides.{nat_tests}
use Rattle.byte_view.specs.Memory.{holds, the_only, memory_in, memory_bytes, AtMostOneHolds, backs}
use Rattle.byte_view.specs.Headers.{file_end, is_load}
use Rattle.byte_view.specs.HeaderFlaws.{has_bad_range}
use Rattle.byte_view.specs.declared.segments.Segment.{Segment}
use Rattle.byte_view.proofs.Found.{find_all, find_passes, only_found}
use Rattle.byte_view.specs.Sound.{AreSound}

-- a list of numbers made by their places is a part of another list
pub map_part : (f : ℕ → ℕ) (xs : List ℕ) (o a n : ℕ) → ((i : ℕ) → a ≤ i → i < a + n → f i ≡ get_or xs (o + i) 0) → o + a + n ≤ length xs → map f (range_with_len a n) ≡ take n (drop (o + a) xs)
map_part f xs o a zero each h = refl
map_part f xs o a (suc n) each h =
    let there : o + a < length xs = omega arith in
    let next : map f (range_with_len (a + 1) n) ≡ take n (drop (o + (a + 1)) xs) = map_part f xs o (a + 1) n (λ i l m. each i (omega arith) (omega arith)) (omega arith) in
    let here : f a ≡ get_or xs (o + a) 0 = each a (omega arith) (omega arith) in
    let place : o + (a + 1) ≡ suc (o + a) = omega arith in
    rw (drop-cons xs (o + a) 0, here, next, place) refl

-- a byte that is within the file size of a segment
pub backed_byte : (file : List ℕ) (segments : List Segment) (test : Segment → Bool) (s : Segment) (addr : ℕ) → AtMostOneHolds segments → find test segments ≡ Some s → is_load s ≡ true → s.filesz ≤ s.memsz → s.vaddr ≤ addr → addr < s.vaddr + s.filesz → memory_in file segments addr ≡ slice_get file (s.offset + (addr - s.vaddr))
unfolding memory_in
backed_byte file segments test s addr one found load sizes low high =
    let it : holds addr s ≡ true = grind (arith, nat_tests) in
    let only : the_only (filter (holds addr) segments) ≡ Some s = only_found test (holds addr) segments s found it (one.one addr) in
    rw only (grind (arith, nat_tests))

got : (xs : List ℕ) (k : ℕ) → k < length xs → unwrap_or (slice_get xs k) 0 ≡ get_or xs k 0
got [] k h = absurd (omega arith)
got (x ∷ xs) zero h = refl
got (x ∷ xs) (suc k) h = got xs k (omega arith)

-- a LOAD that can be mapped has no more bytes in the file than in memory, and they end within the file
pub load_sizes : (len : ℕ) (s : Segment) → is_load s ≡ true → has_bad_range len s ≡ false → (s.filesz ≤ s.memsz) × (file_end s ≤ len)
load_sizes len s load good = (grind (arith, nat_tests), grind (arith, nat_tests))

-- a range that a segment backs
pub record IsBackedBy (file : List ℕ) (segments : List Segment) (s : Segment) (addr len : ℕ) : Type 0 where
  pub found : find (backs addr len) segments ≡ Some s
  pub load : is_load s ≡ true
  pub low : s.vaddr ≤ addr
  pub high : addr + len ≤ s.vaddr + s.filesz
  pub sizes : s.filesz ≤ s.memsz
  pub within : file_end s ≤ length file

pub backed_by : (file : List ℕ) (segments : List Segment) (s : Segment) (addr len : ℕ) → AreSound (length file) segments → find (backs addr len) segments ≡ Some s → IsBackedBy file segments s addr len
backed_by file segments s addr len sound found =
    let passes : backs addr len s ≡ true = find_passes (backs addr len) segments s found in
    let load : is_load s ≡ true = grind (arith, nat_tests) in
    let good : has_bad_range (length file) s ≡ false = find_all (backs addr len) (has_bad_range (length file)) segments s sound.mappable found in
    record {
      found = found;
      load = load;
      low = grind (arith, nat_tests);
      high = grind (arith, nat_tests);
      sizes = (load_sizes (length file) s load good).0;
      within = (load_sizes (length file) s load good).1;
    }

-- a part of a range that a segment backs is that part of the file
pub part_bytes : (file : List ℕ) (segments : List Segment) (s : Segment) (addr len k n : ℕ) → AreSound (length file) segments → find (backs addr len) segments ≡ Some s → k + n ≤ len → memory_bytes file segments (addr + k) n ≡ take n (drop (s.offset + (addr - s.vaddr) + k) file)
unfolding memory_bytes
part_bytes file segments s addr len k n sound found h =
    let b : IsBackedBy file segments s addr len = backed_by file segments s addr len sound found in
    let o : ℕ = s.offset + (addr - s.vaddr) + k in
    let each : (i : ℕ) → 0 ≤ i → i < 0 + n → unwrap_or (memory_in file segments (addr + k + i)) 0 ≡ get_or file (o + i) 0 = λ i l m.
    let place : s.offset + (addr + k + i - s.vaddr) ≡ o + i = omega arith in
    let byte : memory_in file segments (addr + k + i) ≡ slice_get file (s.offset + (addr + k + i - s.vaddr)) = backed_byte file segments (backs addr len) s (addr + k + i) sound.one found b.load b.sizes (omega arith) (omega arith) in
    rw (byte, place) (got file (o + i) (omega arith)) in
    let there : o + 0 + n ≤ length file = omega arith in
    let start : o + 0 ≡ o = omega arith in
    let made : map (λ i. unwrap_or (memory_in file segments (addr + k + i)) 0) (range_with_len 0 n) ≡ take n (drop (o + 0) file) = map_part (λ i. unwrap_or (memory_in file segments (addr + k + i)) 0) file o 0 n each there in
    rw start at made
