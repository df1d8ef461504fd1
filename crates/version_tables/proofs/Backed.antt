-- What memory has where the file backs it.
use Rattle.std.proofs.Common.{◌≡◌, ℕ, ◌+◌, ◌≤◌, false, List, Option, Some, None, take, drop, refl, ap, ◌∙◌, arith}
use Rattle.std.specs.Prelude.{is_some}
use Rattle.std.specs.Option.{unwrap_or}
use Rattle.byteorder.specs.Numbers.{little_from-take}
use Rattle.byte_view.specs.Headers.{headers}
use Rattle.byte_view.specs.Memory.{range_in}
use Rattle.byte_view.specs.Numbers.{number_at}
use Rattle.byte_view.specs.Sound.{IsReadFrom}
use Rattle.byte_view.specs.declared.segments.Segment.{Segment}
use Rattle.byte_view.proofs.Loads.{sound_file}
use Rattle.byte_view.proofs.Ranges.{IsRead, range_read}
use Rattle.dyn_table.proofs.StringTable.{range_limit}
use Rattle.load_model.specs.TableWords.{word_in}
use Rattle.load_model.specs.VersionTables.{file_place, memory_number}
use Rattle.version_tables.specs.Backed.{IsBacked}

-- a number in bytes that were taken
taken_number : (file : List ℕ) (n at : ℕ) → number_at n (take n (drop at file)) 0 ≡ number_at n file at
unfolding number_at
taken_number file n at = little_from-take 0 n n (drop at file) (omega arith)

pub backed_there : (segments : List Segment) (file : List ℕ) (at size from to : ℕ) → IsReadFrom segments file → range_in segments at size ≡ Some (from, to) → IsBacked file at size from
unfolding file_place memory_number word_in
backed_there segments file at size from to r e =
    let here : range_in (headers file) at size ≡ Some (from, to) = rw (← r.same) e in
    let read : IsRead file (headers file) at size (from, to) = range_read file (headers file) at size (from, to) (sound_file file r.unflawed) here in
    record {
      found = rw here refl;
      place = ap (λ (o : Option (ℕ × ℕ)). (unwrap_or o (0, 0)).0) here;
      within = omega (arith, read.ends, read.within);
      words = λ k n h. ap (λ (b : List ℕ). number_at n b 0) (read.parts k n h) ∙ taken_number file n (from + k);
      limit = λ h. range_limit segments file at size (from, to) r e h;
    }

pub unbacked_there : (segments : List Segment) (file : List ℕ) (at size : ℕ) → IsReadFrom segments file → range_in segments at size ≡ None → is_some (range_in (headers file) at size) ≡ false
unbacked_there segments file at size r e =
    let here : range_in (headers file) at size ≡ None = rw (← r.same) e in
    rw here refl

-- the words of a record at its beginning, and further on
pub first_word : (file : List ℕ) (at size place n : ℕ) → IsBacked file at size place → n ≤ size → memory_number n file at ≡ number_at n file place
first_word file at size place n b h =
    let there : memory_number n file (at + 0) ≡ number_at n file (place + 0) = b.words 0 n (omega arith) in
    let a : at + 0 ≡ at = omega arith in
    let p : place + 0 ≡ place = omega arith in
    rw (a, p) at there

pub later_word : (file : List ℕ) (at size place k n : ℕ) → IsBacked file at size place → k + n ≤ size → memory_number n file (at + k) ≡ number_at n file (place + k)
later_word file at size place k n b h = b.words k n h
