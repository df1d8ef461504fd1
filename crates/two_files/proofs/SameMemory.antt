-- Where the same bytes stand in the file, memory has the same.
use Rattle.std.proofs.Common.{◌≡◌, ℕ, ◌+◌, ◌≤◌, true, List, Some, None, take, drop, is_some, refl, sym, ◌∙◌, arith}
use Rattle.byte_view.specs.HeaderFlaws.{header_flaw}
use Rattle.byte_view.specs.Headers.{headers}
use Rattle.byte_view.specs.Memory.{memory_bytes, range_in}
use Rattle.byte_view.proofs.Loads.{sound_file}
use Rattle.byte_view.proofs.Ranges.{IsRead, range_read}
use Rattle.two_files.specs.Alike.{KeepsRanges, SameIn}

-- a range whose bytes stand at the same place in both files
pub same_range : (b c : List ℕ) (addr len : ℕ) (range : ℕ × ℕ) → header_flaw b ≡ None → header_flaw c ≡ None → KeepsRanges (headers b) (headers c) → range_in (headers b) addr len ≡ Some range → ((k n : ℕ) → k + n ≤ len → take n (drop (range.0 + k) c) ≡ take n (drop (range.0 + k) b)) → SameIn b c addr len
same_range b c addr len range hb hc keeps e same =
    let there : is_some (range_in (headers b) addr len) ≡ true = rw e refl in
    let kept : range_in (headers c) addr len ≡ Some range = keeps.keeps addr len there ∙ e in
    let old : IsRead b (headers b) addr len range = range_read b (headers b) addr len range (sound_file b hb) e in
    let new : IsRead c (headers c) addr len range = range_read c (headers c) addr len range (sound_file c hc) kept in
    record { parts = λ k n h. new.parts k n h ∙ (same k n h ∙ sym (old.parts k n h)) }

-- and a part of it, where the whole is backed and only the part is the same
pub same_part : (b c : List ℕ) (addr len from size : ℕ) (range : ℕ × ℕ) → header_flaw b ≡ None → header_flaw c ≡ None → KeepsRanges (headers b) (headers c) → range_in (headers b) addr len ≡ Some range → from + size ≤ len → ((k n : ℕ) → k + n ≤ size → take n (drop (range.0 + from + k) c) ≡ take n (drop (range.0 + from + k) b)) → SameIn b c (addr + from) size
same_part b c addr len from size range hb hc keeps e fits same =
    let there : is_some (range_in (headers b) addr len) ≡ true = rw e refl in
    let kept : range_in (headers c) addr len ≡ Some range = keeps.keeps addr len there ∙ e in
    let old : IsRead b (headers b) addr len range = range_read b (headers b) addr len range (sound_file b hb) e in
    let new : IsRead c (headers c) addr len range = range_read c (headers c) addr len range (sound_file c hc) kept in
    record {
      parts = λ k n h.
          let at : addr + (from + k) ≡ addr + from + k = omega arith in
          let place : range.0 + (from + k) ≡ range.0 + from + k = omega arith in
          let news : memory_bytes c (headers c) (addr + from + k) n ≡ take n (drop (range.0 + from + k) c) = rw (at, place) at (new.parts (from + k) n (omega arith)) in
          let olds : memory_bytes b (headers b) (addr + from + k) n ≡ take n (drop (range.0 + from + k) b) = rw (at, place) at (old.parts (from + k) n (omega arith)) in
          news ∙ (same k n h ∙ sym olds);
    }
