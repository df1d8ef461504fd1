-- The new segment does not stand high
use Rattle.std.proofs.Common.{◌≡◌, ℕ, ◌+◌, ◌-◌, ◌≤◌, ◌||◌, Bool, true, false, cond, List, [], ◌∷◌, Some, length, max, map, refl, subst, arith}
use Rattle.std.specs.Prelude.{fold}
use Rattle.std.specs.List.{filter, find, list_any}
use Rattle.std.specs.Int.{next_multiple_of}
use Rattle.std.proofs.lemmas.Bool.Decides.{nat_tests}
use Rattle.byte_view.specs.HeaderFlaws.{has_bad_range}
use Rattle.byte_view.specs.Headers.{file_end, is_load, memory_end}
use Rattle.byte_view.specs.Sound.{IsReadFrom}
use Rattle.byte_view.specs.declared.constants.TheConstants.{LONGEST_FILE}
use Rattle.byte_view.specs.declared.segments.Segment.{Segment}
use Rattle.byte_view.proofs.Found.{find_all, find_passes}
use Rattle.dyn_table.proofs.Placed.{sound_read}
use Rattle.two_files.proofs.Pages.{multiple_above}
use Rattle.elf_rewrite.specs.NewSegment.{top_of}
use Rattle.elf_rewrite.specs.Stops.{ends_high}
use Rattle.elf_rewrite.specs.declared.change.TheConstants.{HIGHEST_OLD_END, PAGE}

one_low : (s : Segment) → is_load s ≡ true → ends_high s ≡ false → memory_end s ≤ HIGHEST_OLD_END
one_low s load h = grind (arith, nat_tests)

fold_low : (top : ℕ) (xs : List Segment) → top ≤ HIGHEST_OLD_END → list_any ends_high xs ≡ false → fold max top (map memory_end (filter is_load xs)) ≤ HIGHEST_OLD_END
fold_low top [] h e = h
fold_low top (s ∷ more) h e = go (is_load s) (ends_high s) refl refl h e (λ a t g. fold_low a more t g)
  where
    go : (a b : Bool) → is_load s ≡ a → ends_high s ≡ b → top ≤ HIGHEST_OLD_END → (b || list_any ends_high more) ≡ false → ((a : ℕ) → a ≤ HIGHEST_OLD_END → list_any ends_high more ≡ false → fold max a (map memory_end (filter is_load more)) ≤ HIGHEST_OLD_END) → fold max top (map memory_end (cond a (s ∷ filter is_load more) (filter is_load more))) ≤ HIGHEST_OLD_END
    go a true l b h e on = absurd (cc)
    go true false l b h e on = let end : memory_end s ≤ HIGHEST_OLD_END = one_low s l b in on (max top (memory_end s)) (omega arith) e
    go false false l b h e on = on top h e

pub top_low : (xs : List Segment) → list_any ends_high xs ≡ false → top_of xs ≤ HIGHEST_OLD_END
top_low xs e = fold_low 0 xs (omega arith) e

first_low : (xs : List Segment) (s : Segment) → list_any ends_high xs ≡ false → find is_load xs ≡ Some s → memory_end s ≤ HIGHEST_OLD_END
first_low [] s e f = absurd (cc)
first_low (x ∷ more) s e f = go (is_load x) (ends_high x) refl refl e f (λ g h. first_low more s g h)
  where
    go : (a b : Bool) → is_load x ≡ a → ends_high x ≡ b → (b || list_any ends_high more) ≡ false → cond a (Some x) (find is_load more) ≡ Some s → (list_any ends_high more ≡ false → find is_load more ≡ Some s → memory_end s ≤ HIGHEST_OLD_END) → memory_end s ≤ HIGHEST_OLD_END
    go a true l b e f on = absurd (cc)
    go true false l b e f on = let same : x ≡ s = cc in subst (λ t. memory_end t ≤ HIGHEST_OLD_END) same (one_low x l b)
    go false false l b e f on = on e f

pub above_low : (len : ℕ) (xs : List Segment) (s : Segment) → list_any ends_high xs ≡ false → len ≤ LONGEST_FILE → find is_load xs ≡ Some s → max (top_of xs) (len + s.vaddr - s.offset) ≤ HIGHEST_OLD_END + LONGEST_FILE
above_low len xs s e short f =
    let top = top_low xs e in
    let end : memory_end s ≤ HIGHEST_OLD_END = first_low xs s e f in
    omega arith

pub addr_low : (len : ℕ) (xs : List Segment) (s : Segment) → list_any ends_high xs ≡ false → len ≤ LONGEST_FILE → find is_load xs ≡ Some s → next_multiple_of (max (top_of xs) (len + s.vaddr - s.offset)) PAGE ≤ HIGHEST_OLD_END + HIGHEST_OLD_END
addr_low len xs s e short f =
    let m = multiple_above (max (top_of xs) (len + s.vaddr - s.offset)) in
    let n = above_low len xs s e short f in
    omega (arith, m.1)

pub load_within : (segments : List Segment) (file : List ℕ) (s : Segment) → IsReadFrom segments file → find is_load segments ≡ Some s → file_end s ≤ length file
load_within segments file s r found =
    let passes : is_load s ≡ true = find_passes is_load segments s found in
    let good : has_bad_range (length file) s ≡ false = find_all is_load (has_bad_range (length file)) segments s (sound_read segments file r).mappable found in
    grind (arith, nat_tests)
