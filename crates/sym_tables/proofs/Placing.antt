-- Where the hash tables are: what their headers say, and that a table whose header is cut is cut.
use Rattle.std.proofs.Common.{◌≡◌, ℕ, ◌+◌, ◌≤◌, List, Some, None, length, refl, arith, sym, ◌∙◌, ◌*◌}
use Rattle.byte_view.specs.Memory.{range_in}
use Rattle.byte_view.specs.Numbers.{number_at}
use Rattle.byte_view.specs.Sound.{IsReadFrom}
use Rattle.byte_view.specs.declared.segments.Segment.{Segment}
use Rattle.byte_view.proofs.Ranges.{IsRead}
use Rattle.load_model.specs.GnuTable.{bloom_shift, bloom_size, chains_from, nbuckets, symoffset}
use Rattle.load_model.specs.SysvTable.{nbucket, nchain, sysv_place, sysv_size, sysv_table}
use Rattle.load_model.specs.TableWords.{words_in}
use Rattle.sym_tables.specs.FileWords.{words_at}
use Rattle.sym_tables.specs.Places.{AreFrontParts, IsFrontOf, IsGnuHeader, IsSysvPlace, sysv_length, sysv_words}
use Rattle.sym_tables.specs.declared.gnu_front.Front.{Front}
use Rattle.sym_tables.specs.declared.gnu_front.GnuHeader.{GnuHeader}
use Rattle.sym_tables.specs.declared.sysv.SysvPlace.{SysvPlace}
use Rattle.sym_tables.proofs.Backing.{none_longer, range_there, word_there, words_there}

pub record IsHeader (size : ℕ) (file : List ℕ) (segments : List Segment) (addr from : ℕ) : Type 0 where
  pub within : from + size ≤ length file
  pub first : nbucket file segments addr ≡ number_at 4 file from
  pub second : nchain file segments addr ≡ number_at 4 file (from + 4)

pub record AreFirstWords (file : List ℕ) (segments : List Segment) (addr from : ℕ) : Type 0 where
  pub within : from + 16 ≤ length file
  pub buckets : nbuckets file segments addr ≡ number_at 4 file from
  pub offset : symoffset file segments addr ≡ number_at 4 file (from + 4)
  pub bloom : bloom_size file segments addr ≡ number_at 4 file (from + 8)
  pub shift : bloom_shift file segments addr ≡ number_at 4 file (from + 12)

pub sysv_header : (file : List ℕ) (segments : List Segment) (addr from to : ℕ) → IsReadFrom segments file → range_in segments addr 8 ≡ Some (from, to) → IsHeader 8 file segments addr from
sysv_header file segments addr from to r e =
    let read : IsRead file segments addr 8 (from, to) = range_there segments file addr 8 (from, to) r e in
    let start : addr + 0 ≡ addr = omega arith in
    let place : from + 0 ≡ from = omega arith in
    record {
      within = omega (arith, read.ends, read.within);
      first = rw (start, place) at (word_there 4 file segments addr 8 0 (from, to) read (omega arith));
      second = word_there 4 file segments addr 8 4 (from, to) read (omega arith);
    }

-- where the header is not backed, the table is not
pub sysv_cut : (file : List ℕ) (segments : List Segment) (addr : ℕ) → range_in segments addr 8 ≡ None → sysv_place file segments addr ≡ None
unfolding sysv_place
sysv_cut file segments addr e = none_longer segments addr 8 (sysv_size file segments addr) (omega arith) (omega arith) e

-- the words of a table that is backed are those that memory has
pub sysv_fits : (file : List ℕ) (segments : List Segment) (addr : ℕ) (p : SysvPlace) → IsReadFrom segments file → IsSysvPlace p file segments addr → p.from + sysv_length p ≤ length file
unfolding sysv_place
sysv_fits file segments addr p r there =
    let read : IsRead file segments addr (sysv_size file segments addr) (p.from, p.to) = range_there segments file addr (sysv_size file segments addr) (p.from, p.to) r there.place in
    omega (arith, read.ends, read.within, there.buckets, there.symbols)

pub sysv_there : (file : List ℕ) (segments : List Segment) (addr : ℕ) (p : SysvPlace) → IsReadFrom segments file → IsSysvPlace p file segments addr → sysv_words file p ≡ sysv_table file segments addr
unfolding sysv_place sysv_table
sysv_there file segments addr p r there =
    let size : ℕ = sysv_size file segments addr in
    let read : IsRead file segments addr size (p.from, p.to) = range_there segments file addr size (p.from, p.to) r there.place in
    let buckets : words_in 4 file segments (addr + 8) (nbucket file segments addr) ≡ words_at 4 file (p.from + 8) (nbucket file segments addr) = words_there 4 file segments addr size 8 (nbucket file segments addr) (p.from, p.to) read (omega arith) in
    let chains : words_in 4 file segments (addr + (8 + 4 * nbucket file segments addr)) (nchain file segments addr) ≡ words_at 4 file (p.from + (8 + 4 * nbucket file segments addr)) (nchain file segments addr) = words_there 4 file segments addr size (8 + 4 * nbucket file segments addr) (nchain file segments addr) (p.from, p.to) read (omega arith) in
    let there_from : addr + (8 + 4 * nbucket file segments addr) ≡ addr + 8 + 4 * nbucket file segments addr = omega arith in
    let file_from : p.from + (8 + 4 * nbucket file segments addr) ≡ p.from + 8 + 4 * nbucket file segments addr = omega arith in
    rw (there.buckets, there.symbols, buckets, ← there_from, chains, ← file_from) refl

-- the first words of a GNU hash table
pub gnu_header : (file : List ℕ) (segments : List Segment) (addr from to : ℕ) → IsReadFrom segments file → range_in segments addr 16 ≡ Some (from, to) → AreFirstWords file segments addr from
gnu_header file segments addr from to r e =
    let read : IsRead file segments addr 16 (from, to) = range_there segments file addr 16 (from, to) r e in
    let start : addr + 0 ≡ addr = omega arith in
    let place : from + 0 ≡ from = omega arith in
    record {
      within = omega (arith, read.ends, read.within);
      buckets = rw (start, place) at (word_there 4 file segments addr 16 0 (from, to) read (omega arith));
      offset = word_there 4 file segments addr 16 4 (from, to) read (omega arith);
      bloom = word_there 4 file segments addr 16 8 (from, to) read (omega arith);
      shift = word_there 4 file segments addr 16 12 (from, to) read (omega arith);
    }

pub front_cut : (file : List ℕ) (segments : List Segment) (addr : ℕ) → range_in segments addr 16 ≡ None → range_in segments addr (chains_from file segments addr) ≡ None
front_cut file segments addr e = none_longer segments addr 16 (chains_from file segments addr) (omega arith) (omega arith) e

pub front_fits : (file : List ℕ) (segments : List Segment) (addr from to size : ℕ) → IsReadFrom segments file → range_in segments addr size ≡ Some (from, to) → from + size ≤ length file
front_fits file segments addr from to size r e =
    let read : IsRead file segments addr size (from, to) = range_there segments file addr size (from, to) r e in
    omega (arith, read.ends, read.within)

pub front_there : (file : List ℕ) (segments : List Segment) (addr from to : ℕ) (h : GnuHeader) (f : Front) → IsReadFrom segments file → IsGnuHeader h file segments addr → range_in segments addr (16 + 8 * h.bloom + 4 * h.buckets) ≡ Some (from, to) → AreFrontParts file h from f → IsFrontOf f file segments addr
front_there file segments addr from to h f r header e parts =
    let size : ℕ = chains_from file segments addr in
    let said : 16 + 8 * h.bloom + 4 * h.buckets ≡ size = omega (arith, header.bloom, header.buckets) in
    let there : range_in segments addr size ≡ Some (from, to) = rw said at e in
    let read : IsRead file segments addr size (from, to) = range_there segments file addr size (from, to) r there in
    let bloom : words_in 8 file segments (addr + 16) (bloom_size file segments addr) ≡ words_at 8 file (from + 16) (bloom_size file segments addr) = words_there 8 file segments addr size 16 (bloom_size file segments addr) (from, to) read (omega arith) in
    let buckets : words_in 4 file segments (addr + (16 + 8 * bloom_size file segments addr)) (nbuckets file segments addr) ≡ words_at 4 file (from + (16 + 8 * bloom_size file segments addr)) (nbuckets file segments addr) = words_there 4 file segments addr size (16 + 8 * bloom_size file segments addr) (nbuckets file segments addr) (from, to) read (omega arith) in
    let mem_from : addr + (16 + 8 * bloom_size file segments addr) ≡ addr + 16 + 8 * bloom_size file segments addr = omega arith in
    let file_from : from + (16 + 8 * bloom_size file segments addr) ≡ from + 16 + 8 * bloom_size file segments addr = omega arith in
    record {
      offset = parts.offset ∙ header.offset;
      shift = parts.shift ∙ header.shift;
      bloom = parts.bloom ∙ (rw header.bloom (sym bloom));
      buckets = parts.buckets ∙ (rw (header.bloom, header.buckets) (sym (rw (mem_from, file_from) at buckets)));
      size = parts.size ∙ said;
      limit = omega (arith, parts.size, header.few_buckets, header.few_words);
      backed = rw (parts.size ∙ said, there) refl;
    }
