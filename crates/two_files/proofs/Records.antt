-- The words of version records in the same bytes are the same.
use Rattle.std.proofs.Common.{◌≡◌, ℕ, zero, suc, ◌+◌, ◌<◌, ◌≤◌, Bool, true, false, not, List, Option, None, is_some, map, refl, ap, arith}
use Rattle.std.specs.List.{range_with_len}
use Rattle.answers.specs.First.{first_some}
use Rattle.byte_view.specs.Dynamic.{dynamic_entries, string_at, strings_size}
use Rattle.byte_view.specs.Headers.{headers}
use Rattle.byte_view.specs.Memory.{range_in}
use Rattle.byte_view.specs.Numbers.{number_at}
use Rattle.byte_view.specs.declared.flaws.Flaw.{Flaw}
use Rattle.byte_view.proofs.Loads.{none_first}
use Rattle.load_model.specs.TableWords.{word_in}
use Rattle.load_model.specs.VersionFlaws.{is_unbacked}
use Rattle.load_model.specs.VersionTables.{memory_number, record_place, text_of}
use Rattle.two_files.specs.Alike.{KeepsRanges, KeepsTexts, SameIn}

pub number_same : (b c : List ℕ) (addr len n k : ℕ) → SameIn b c addr len → k + n ≤ len → memory_number n c (addr + k) ≡ memory_number n b (addr + k)
unfolding memory_number word_in
number_same b c addr len n k s h = ap (λ bytes. number_at n bytes 0) (s.parts k n h)

pub number_first : (b c : List ℕ) (addr len n : ℕ) → SameIn b c addr len → n ≤ len → memory_number n c addr ≡ memory_number n b addr
number_first b c addr len n s h =
    let there : memory_number n c (addr + 0) ≡ memory_number n b (addr + 0) = number_same b c addr len n 0 s (omega arith) in
    let place : addr + 0 ≡ addr = omega arith in
    rw place at there

-- records that follow one another by the same words stand at the same places
pub places_same : (f g : ℕ → ℕ) (first n k : ℕ) → ((j : ℕ) → j < n → g (record_place f first j) ≡ f (record_place f first j)) → k ≤ n → record_place g first k ≡ record_place f first k
unfolding record_place
places_same f g first n zero each h = refl
places_same f g first n (suc k) each h =
    let before : record_place g first k ≡ record_place f first k = places_same f g first n k each (omega arith) in
    rw (before, each k (omega arith)) refl

-- what is backed in one file is backed in the other
pub backed_same : (b c : List ℕ) (at size : ℕ) → KeepsRanges (headers b) (headers c) → is_unbacked b at size ≡ false → is_unbacked c at size ≡ false
backed_same b c at size keeps e =
    let there : is_some (range_in (headers b) at size) ≡ true = go (is_some (range_in (headers b) at size)) e in
    rw (keeps.keeps at size there) e
  where
    go : (t : Bool) → not t ≡ false → t ≡ true
    go true e = refl
    go false e = absurd (cc)

pub text_same : (b c : List ℕ) (at : ℕ) → KeepsTexts b c (headers b) (headers c) (dynamic_entries b) (dynamic_entries c) → at < strings_size (dynamic_entries b) → text_of c at ≡ text_of b at
unfolding string_at
text_same b c at k h = rw (k.texts at h) refl

-- of checks in a row, none finds a flaw exactly where each finds none
pub none_each : (f : ℕ → Option Flaw) (a n : ℕ) → first_some (map f (range_with_len a n)) ≡ None → (k : ℕ) → a ≤ k → k < a + n → f k ≡ None
none_each f a zero e k l h = absurd (omega arith)
none_each f a (suc n) e k l h =
    let here = none_first (f a) (map f (range_with_len (a + 1) n)) e in
    grind (arith, here.0, none_each f (a + 1) n here.1 k)

pub each_none : (f : ℕ → Option Flaw) (a n : ℕ) → ((k : ℕ) → a ≤ k → k < a + n → f k ≡ None) → first_some (map f (range_with_len a n)) ≡ None
each_none f a zero each = refl
each_none f a (suc n) each =
    let here : f a ≡ None = each a (omega arith) (omega arith) in
    rw here (each_none f (a + 1) n (λ k l h. each k (omega arith) (omega arith)))
