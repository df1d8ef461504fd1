-- The dynamic table as memory has it is the one that stands in the file at the segment's place.
use Rattle.std.proofs.Common.{◌≡◌, ℕ, zero, suc, ◌+◌, ◌*◌, ◌/◌, ◌<◌, ◌≤◌, ◌∷◌, ◌||◌, not, Bool, true, false, cond, List, [], Option, Some, None, length, take, drop, map, refl, ap, sym, ◌∙◌, arith}
use Rattle.std.specs.Prelude.{nat_lt}
use Rattle.std.specs.List.{find, range_with_len}
use Rattle.std.proofs.lemmas.Bool.Decides.{nat_tests}
use Rattle.byte_view.specs.Checks.{flaw}
use Rattle.byte_view.specs.Dynamic.{dynamic_table, entry_of, table_by, table_of}
use Rattle.byte_view.specs.DynamicFlaws.{begins_at, misplaced, place_flaw, segment_flaw_by, two_dynamic}
use Rattle.byte_view.specs.HeaderFlaws.{has_bad_range}
use Rattle.byte_view.specs.Headers.{file_end, headers, is_dynamic}
use Rattle.byte_view.specs.Memory.{memory_bytes, range_in}
use Rattle.byte_view.specs.Sound.{AreSound, IsReadFrom}
use Rattle.byte_view.specs.declared.dynamic.Entry.{Entry}
use Rattle.byte_view.specs.declared.segments.Segment.{Segment}
use Rattle.byte_view.proofs.Found.{find_all, find_passes}
use Rattle.byte_view.proofs.Loads.{none_first, sound_file}
use Rattle.byte_view.proofs.Ranges.{IsRead, entry_read, range_read}
use Rattle.dyn_table.specs.Table.{entry_in, table_in}
use Rattle.byte_view.specs.declared.flaws.TheConstants.{DYNAMIC_PLACE}

pub sound_read : (segments : List Segment) (file : List ℕ) → IsReadFrom segments file → AreSound (length file) segments
sound_read segments file r = rw r.same (sound_file file r.unflawed)

-- the bytes of the DYNAMIC segment lie in the file
pub dynamic_within : (segments : List Segment) (file : List ℕ) (s : Segment) → IsReadFrom segments file → find is_dynamic segments ≡ Some s → file_end s ≤ length file
dynamic_within segments file s r found =
    let passes : is_dynamic s ≡ true = find_passes is_dynamic segments s found in
    let good : has_bad_range (length file) s ≡ false = find_all is_dynamic (has_bad_range (length file)) segments s (sound_read segments file r).mappable found in
    grind (arith, nat_tests)

-- an entry of sixteen bytes of the file
there_read : (file : List ℕ) (at : ℕ) → entry_of (take 16 (drop at file)) ≡ entry_in file at
unfolding entry_in
there_read file at = entry_read file at

entries_same : (f g : ℕ → Entry) (a n : ℕ) → ((i : ℕ) → a ≤ i → i < a + n → f i ≡ g i) → map f (range_with_len a n) ≡ map g (range_with_len a n)
entries_same f g a zero each = refl
entries_same f g a (suc n) each =
    let here : f a ≡ g a = each a (omega arith) (omega arith) in
    let later : map f (range_with_len (a + 1) n) ≡ map g (range_with_len (a + 1) n) = entries_same f g (a + 1) n (λ i l h. each i (omega arith) (omega arith)) in
    rw (here, later) refl

placed_range : (segments : List Segment) (s : Segment) → place_flaw segments s ≡ None → (16 ≤ s.filesz) × (begins_at s.offset (range_in segments s.vaddr s.filesz) ≡ true)
unfolding place_flaw
placed_range segments s e =
    let rest = none_first (two_dynamic segments) (misplaced segments s ∷ []) e in
    let placed : misplaced segments s ≡ None = (none_first (misplaced segments s) [] rest.1).0 in
    go (nat_lt s.filesz 16) refl (begins_at s.offset (range_in segments s.vaddr s.filesz)) refl placed
  where
    go : (a : Bool) → nat_lt s.filesz 16 ≡ a → (b : Bool) → begins_at s.offset (range_in segments s.vaddr s.filesz) ≡ b → cond (a || not b) (Some (flaw DYNAMIC_PLACE 0 0)) None ≡ None → (16 ≤ s.filesz) × (begins_at s.offset (range_in segments s.vaddr s.filesz) ≡ true)
    go true k b l e = absurd (cc)
    go false k true l e = (grind (arith, nat_tests), l)
    go false k false l e = absurd (cc)

-- the range that begins at the segment's own place
range_there : (segments : List Segment) (s : Segment) → begins_at s.offset (range_in segments s.vaddr s.filesz) ≡ true → (to : ℕ) × (range_in segments s.vaddr s.filesz ≡ Some (s.offset, to))
range_there segments s h = go (range_in segments s.vaddr s.filesz) h
  where
    go : (o : Option (ℕ × ℕ)) → begins_at s.offset o ≡ true → (to : ℕ) × (o ≡ Some (s.offset, to))
    go None h = absurd (cc)
    go (Some range) h =
        let from : range.0 ≡ s.offset = grind (arith, nat_tests) in
        (range.1, ap (λ (n : ℕ). Some (n, range.1)) from)

pub table_placed : (segments : List Segment) (file : List ℕ) (s : Segment) → IsReadFrom segments file → place_flaw segments s ≡ None → table_of file segments s ≡ table_in file s
unfolding table_of table_in
table_placed segments file s r e =
    let placed = placed_range segments s e in
    let there = range_there segments s placed.1 in
    let read : IsRead file segments s.vaddr s.filesz (s.offset, there.0) = range_read file segments s.vaddr s.filesz (s.offset, there.0) (sound_read segments file r) there.1 in
    entries_same (λ i. entry_of (memory_bytes file segments (s.vaddr + 16 * i) 16)) (λ i. entry_in file (s.offset + 16 * i)) 0 (s.filesz / 16)
    (λ i l h. let fits : 16 * i + 16 ≤ s.filesz = omega arith in
    ap entry_of (read.parts (16 * i) 16 fits) ∙ there_read file (s.offset + 16 * i))

-- the table of the file, once its DYNAMIC segment is found and placed
pub table_found : (segments : List Segment) (file : List ℕ) (s : Segment) → IsReadFrom segments file → find is_dynamic segments ≡ Some s → segment_flaw_by segments (find is_dynamic segments) ≡ None → table_in file s ≡ dynamic_table file
unfolding dynamic_table
table_found segments file s r found unflawed =
    let e : place_flaw segments s ≡ None = rw found at unflawed in
    let here : find is_dynamic (headers file) ≡ Some s = rw (← r.same) found in
    let same : table_of file (headers file) s ≡ table_in file s = rw (← r.same) (table_placed segments file s r e) in
    sym (ap (table_by file (headers file)) here ∙ same)
