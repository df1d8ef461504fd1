-- What `range_in` gives: file places, the bytes between which memory has at these addresses.
use Rattle.std.proofs.Common.{◌≡◌, ℕ, zero, suc, ◌+◌, ◌-◌, ◌<◌, ◌≤◌, ◌==◌, false, List, Option, Some, None, length, take, drop, refl, ap, ◌∙◌, arith}
use Rattle.std.specs.List.{find}
use Rattle.std.specs.Option.{option_map}
use Rattle.std.proofs.lemmas.Bool.Decides.{nat_tests}
use Rattle.std.proofs.lemmas.List.{drop-drop, drop-take}
use Rattle.byteorder.specs.Numbers.{little_from-take}
use Rattle.byte_view.specs.Dynamic.{entry_of}
use Rattle.byte_view.specs.Memory.{backs, file_range, memory_bytes, range_in}
use Rattle.byte_view.specs.Numbers.{number_at}
use Rattle.byte_view.specs.Sound.{AreSound}
use Rattle.byte_view.specs.declared.segments.Segment.{Segment}
use Rattle.byte_view.proofs.Backed.{IsBackedBy, backed_by, part_bytes}

-- some addresses are backed by a segment
pub record IsRangeOf (segments : List Segment) (addr len : ℕ) (range : ℕ × ℕ) : Type 0 where
  pub segment : Segment
  pub found : find (backs addr len) segments ≡ Some segment
  pub places : file_range addr len segment ≡ range

pub range_found : (segments : List Segment) (addr len : ℕ) (range : ℕ × ℕ) → 0 < len → range_in segments addr len ≡ Some range → IsRangeOf segments addr len range
unfolding range_in
range_found segments addr len range h e =
    let some : (len == 0) ≡ false = grind (arith, nat_tests) in
    go (find (backs addr len) segments) refl (rw some at e)
  where
    go : (o : Option Segment) → find (backs addr len) segments ≡ o → option_map (file_range addr len) o ≡ Some range → IsRangeOf segments addr len range
    go None f e = absurd (cc)
    go (Some s) f e = record { segment = s; found = f; places = cc }

-- what the range of some addresses is
pub record IsRead (file : List ℕ) (segments : List Segment) (addr len : ℕ) (range : ℕ × ℕ) : Type 0 where
  pub ends : range.0 + len ≡ range.1
  pub within : range.1 ≤ length file
  pub parts : (k n : ℕ) → k + n ≤ len → memory_bytes file segments (addr + k) n ≡ take n (drop (range.0 + k) file)

no_bytes : (file : List ℕ) (segments : List Segment) (addr k n at : ℕ) → k + n ≤ 0 → memory_bytes file segments (addr + k) n ≡ take n (drop at file)
unfolding memory_bytes
no_bytes file segments addr k zero at h = refl
no_bytes file segments addr k (suc n) at h = absurd (omega arith)

pub range_read : (file : List ℕ) (segments : List Segment) (addr len : ℕ) (range : ℕ × ℕ) → AreSound (length file) segments → range_in segments addr len ≡ Some range → IsRead file segments addr len range
unfolding range_in
range_read file segments addr zero range sound e =
    let from : 0 ≡ range.0 = cc in
    let to : 0 ≡ range.1 = cc in
    record { ends = omega arith; within = omega arith; parts = λ k n h. no_bytes file segments addr k n (range.0 + k) h }
range_read file segments addr (suc n) range sound e =
    let r : IsRangeOf segments addr (suc n) range = range_found segments addr (suc n) range (omega arith) e in
    let b : IsBackedBy file segments r.segment addr (suc n) = backed_by file segments r.segment addr (suc n) sound r.found in
    let from : r.segment.offset + (addr - r.segment.vaddr) ≡ range.0 = ap (λ (p : ℕ × ℕ). p.0) r.places in
    let to : r.segment.offset + (addr - r.segment.vaddr) + suc n ≡ range.1 = ap (λ (p : ℕ × ℕ). p.1) r.places in
    record {
      ends = omega arith;
      within = omega (arith, b.low, b.high, b.within);
      parts = λ k m h. rw (← from) (part_bytes file segments r.segment addr (suc n) k m sound r.found h);
    }

-- the entry in sixteen bytes of a file
pub entry_read : (file : List ℕ) (at : ℕ) → entry_of (take 16 (drop at file)) ≡ record { tag = number_at 8 file at; value = number_at 8 file (at + 8) }
unfolding entry_of number_at
entry_read file at =
    let tag = little_from-take 0 8 16 (drop at file) (omega arith) in
    let rest : drop 8 (take 16 (drop at file)) ≡ take 8 (drop (at + 8) file) = drop-take 8 8 (drop at file) ∙ ap (take 8) (drop-drop 8 at file) in
    let value = little_from-take 0 8 8 (drop (at + 8) file) (omega arith) in
    rw (tag, rest, value) refl
