-- Bytes of memory whose file places are left read the same.
use Rattle.std.proofs.Common.{◌≡◌, ℕ, zero, suc, ◌+◌, ◌-◌, ◌≤◌, ◌<◌, Bool, true, false, cond, List, [], ◌∷◌, ◌++◌, Option, length, slice_index, Some, None, arith, refl, sym, ap, ◌∙◌}
use Rattle.std.specs.Prelude.{nat_lt, slice_get}
use Rattle.std.specs.List.{All, filter, find}
use Rattle.std.proofs.lemmas.Bool.Decides.{nat_tests}
use Rattle.std.proofs.lemmas.List.Elements.{All-head, All-tail}
use Rattle.byte_view.specs.HeaderFlaws.{has_bad_range, header_flaw}
use Rattle.byte_view.specs.Headers.{file_end, headers, is_load, memory_end}
use Rattle.byte_view.specs.Memory.{byte_of, holds, memory_in}
use Rattle.byte_view.specs.Sound.{AreSound}
use Rattle.byte_view.specs.declared.segments.Segment.{Segment}
use Rattle.byte_view.proofs.Backed.{load_sizes}
use Rattle.byte_view.proofs.Found.{find_all, find_passes, only_is_find}
use Rattle.byte_view.proofs.Loads.{sound_file}
use Rattle.two_files.specs.Kept.{KeepsBytes, Range, SameImage, is_left, file_place_of}
use Rattle.two_files.specs.NewHeaders.{AddsLoad}

-- what holds an address is a LOAD
loads_hold : (addr : ℕ) (xs : List Segment) → filter (holds addr) (filter is_load xs) ≡ filter (holds addr) xs
loads_hold addr [] = refl
loads_hold addr (s ∷ more) = go (is_load s) refl (loads_hold addr more)
  where
    go : (b : Bool) → is_load s ≡ b → filter (holds addr) (filter is_load more) ≡ filter (holds addr) more → filter (holds addr) (filter is_load (s ∷ more)) ≡ filter (holds addr) (s ∷ more)
    go true b on = grind (arith, nat_tests)
    go false b on = grind (arith, nat_tests)

filter_more : (p : Segment → Bool) (xs : List Segment) (x : Segment) → p x ≡ false → filter p (xs ++ x ∷ []) ≡ filter p xs
filter_more p [] x h = rw h refl
filter_more p (y ∷ ys) x h = ap (λ l. cond (p y) (y ∷ l) l) (filter_more p ys x h)

not_held : (addr : ℕ) (s : Segment) → addr < s.vaddr → holds addr s ≡ false
not_held addr s h = grind (arith, nat_tests)

-- below the new LOAD the same segments hold an address
same_holders : (addr : ℕ) (old new : List Segment) (last : Segment) → AddsLoad old new last → addr < last.vaddr → filter (holds addr) new ≡ filter (holds addr) old
same_holders addr old new last adds below =
    sym (loads_hold addr new) ∙ ap (λ xs. filter (holds addr) xs) adds.loads
    ∙ filter_more (holds addr) (filter is_load old) last (not_held addr last below) ∙ loads_hold addr old

got : (xs : List ℕ) (k : ℕ) → k < length xs → slice_get xs k ≡ Some (slice_index xs k)
got [] k h = absurd (omega arith)
got (x ∷ xs) zero h = refl
got (x ∷ xs) (suc k) h = got xs k (omega arith)

guarded : (n m : ℕ) (x y : Option ℕ) → (n < m → x ≡ y) → cond (nat_lt n m) x (Some 0) ≡ cond (nat_lt n m) y (Some 0)
guarded n m x y h = go (nat_lt n m) refl
  where
    go : (b : Bool) → nat_lt n m ≡ b → cond b x (Some 0) ≡ cond b y (Some 0)
    go true t = h (grind (arith, nat_tests))
    go false t = refl

left_byte : (b c : List ℕ) (written : List Range) (addr : ℕ) (s : Segment) → KeepsBytes b c written → s.vaddr ≤ addr → file_end s ≤ length b → (addr - s.vaddr < s.filesz → is_left (file_place_of addr s) written) → byte_of c addr s ≡ byte_of b addr s
left_byte b c written addr s keeps low within left =
    guarded addr (s.vaddr + s.filesz) (slice_get c (file_place_of addr s)) (slice_get b (file_place_of addr s))
    (λ h.
    let longer : length b ≤ length c = keeps.longer in
    let inside : file_place_of addr s < length b = omega arith in
    let byte : slice_index c (file_place_of addr s) ≡ slice_index b (file_place_of addr s) = keeps.bytes (file_place_of addr s) inside (left (omega arith)) in
    got c (file_place_of addr s) (omega arith) ∙ (ap Some byte ∙ sym (got b (file_place_of addr s) inside)))

held_within : (addr : ℕ) (s : Segment) → holds addr s ≡ true → (is_load s ≡ true) × (s.vaddr ≤ addr) × (addr < memory_end s)
held_within addr s h = grind (arith, nat_tests)

load_ends : (top : ℕ) (addr : ℕ) (xs : List Segment) (s : Segment) → All (λ t. memory_end t ≤ top) (filter is_load xs) → find (holds addr) xs ≡ Some s → addr < top
load_ends top addr [] s all e = absurd (cc)
load_ends top addr (x ∷ xs) s all e = go (is_load x) (holds addr x) refl refl all e (λ a. load_ends top addr xs s a)
  where
    go : (a b : Bool) → is_load x ≡ a → holds addr x ≡ b → All (λ t. memory_end t ≤ top) (cond a (x ∷ filter is_load xs) (filter is_load xs)) → cond b (Some x) (find (holds addr) xs) ≡ Some s → (All (λ t. memory_end t ≤ top) (filter is_load xs) → find (holds addr) xs ≡ Some s → addr < top) → addr < top
    go true true l h all e on = let end : memory_end x ≤ top = All-head (λ t. memory_end t ≤ top) x (filter is_load xs) all in let high : addr < memory_end x = (held_within addr x h).2 in omega arith
    go true false l h all e on = on (All-tail (λ t. memory_end t ≤ top) x (filter is_load xs) all) e
    go false true l h all e on = absurd (let load : is_load x ≡ true = (held_within addr x h).0 in cc)
    go false false l h all e on = on all e

-- a LOAD above the others leaves their memory, but for what is written
pub same_image : (b c : List ℕ) (written : List Range) (last : Segment) → header_flaw b ≡ None → KeepsBytes b c written → AddsLoad (headers b) (headers c) last → All (λ s. memory_end s ≤ last.vaddr) (filter is_load (headers b)) → SameImage b c written
unfolding memory_in
same_image b c written last fine keeps adds top = record {
  same = λ addr s only left.
      let sound : AreSound (length b) (headers b) = sound_file b fine in
      let first : find (holds addr) (headers b) ≡ Some s = sym (only_is_find (holds addr) (headers b) (sound.one.one addr)) ∙ only in
      let h = held_within addr s (find_passes (holds addr) (headers b) s first) in
      let good : has_bad_range (length b) s ≡ false = find_all (holds addr) (has_bad_range (length b)) (headers b) s sound.mappable first in
      let sizes = load_sizes (length b) s h.0 good in
      let below : addr < last.vaddr = load_ends last.vaddr addr (headers b) s top first in
      rw (same_holders addr (headers b) (headers c) last adds below, only) (left_byte b c written addr s keeps h.1 sizes.1 left);
}

-- the same where no header changes
pub image_left : (b c : List ℕ) (written : List Range) → header_flaw b ≡ None → KeepsBytes b c written → headers c ≡ headers b → SameImage b c written
unfolding memory_in
image_left b c written fine keeps same = record {
  same = λ addr s only left.
      let sound : AreSound (length b) (headers b) = sound_file b fine in
      let first : find (holds addr) (headers b) ≡ Some s = sym (only_is_find (holds addr) (headers b) (sound.one.one addr)) ∙ only in
      let h = held_within addr s (find_passes (holds addr) (headers b) s first) in
      let good : has_bad_range (length b) s ≡ false = find_all (holds addr) (has_bad_range (length b)) (headers b) s sound.mappable first in
      let sizes = load_sizes (length b) s h.0 good in
      rw (same, only) (left_byte b c written addr s keeps h.1 sizes.1 left);
}
