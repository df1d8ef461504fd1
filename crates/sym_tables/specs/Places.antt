-- Where the hash tables are, with their sizes
use Rattle.std.specs.Prelude.{ℕ, ◌≡◌, ◌+◌, ◌*◌, ◌^◌, ◌<◌, ◌≤◌, length, ◌&&◌, true, false, List, Some, is_some}
use Rattle.byte_view.specs.Memory.{range_in}
use Rattle.byte_view.specs.declared.segments.Segment.{Segment}
use Rattle.load_model.specs.GnuTable.{bloom_shift, bloom_size, bloom_words, chains_from, gnu_buckets, gnu_place, gnu_reach, has_end, nbuckets, symoffset, words_below}
use Rattle.load_model.specs.SysvTable.{SysvTable, nbucket, nchain, sysv_place}
use Rattle.sym_tables.specs.FileWords.{words_at}
use Rattle.sym_tables.specs.declared.gnu_front.Front.{Front}
use Rattle.sym_tables.specs.declared.gnu_front.GnuHeader.{GnuHeader}
use Rattle.sym_tables.specs.declared.gnu_reach.Reach.{Reach}
use Rattle.sym_tables.specs.declared.sysv.SysvPlace.{SysvPlace}

pub record IsSysvPlace (p : SysvPlace) (file : List ℕ) (segments : List Segment) (addr : ℕ) : Type 0
  where
    pub place : sysv_place file segments addr ≡ Some (p.from, p.to)
    pub buckets : p.buckets ≡ nbucket file segments addr
    pub symbols : p.symbols ≡ nchain file segments addr

-- how many bytes it has, and its words as they stand in the file
abbrev pub sysv_length : SysvPlace → ℕ
sysv_length p = 8 + 4 * p.buckets + 4 * p.symbols

abbrev pub sysv_words : List ℕ → SysvPlace → SysvTable
sysv_words file p = record {
  buckets = words_at 4 file (p.from + 8) p.buckets;
  chains = words_at 4 file (p.from + 8 + 4 * p.buckets) p.symbols;
}

-- the first words of a GNU hash table
pub record IsGnuHeader (h : GnuHeader) (file : List ℕ) (segments : List Segment) (addr : ℕ) : Type 0
  where
    pub buckets : h.buckets ≡ nbuckets file segments addr
    pub offset : h.offset ≡ symoffset file segments addr
    pub bloom : h.bloom ≡ bloom_size file segments addr
    pub shift : h.shift ≡ bloom_shift file segments addr
    pub few_buckets : h.buckets < 2 ^ 32
    pub few_words : h.bloom < 2 ^ 32

-- what stands before its chain words
pub record AreFrontParts (file : List ℕ) (h : GnuHeader) (place : ℕ) (f : Front) : Type 0 where
  pub offset : f.offset ≡ h.offset
  pub shift : f.shift ≡ h.shift
  pub bloom : f.bloom.items ≡ words_at 8 file (place + 16) h.bloom
  pub buckets : f.buckets.items ≡ words_at 4 file (place + 16 + 8 * h.bloom) h.buckets
  pub size : f.size ≡ 16 + 8 * h.bloom + 4 * h.buckets

pub record IsFrontOf (f : Front) (file : List ℕ) (segments : List Segment) (addr : ℕ) : Type 0 where
  pub offset : f.offset ≡ symoffset file segments addr
  pub shift : f.shift ≡ bloom_shift file segments addr
  pub bloom : f.bloom.items ≡ bloom_words file segments addr
  pub buckets : f.buckets.items ≡ gnu_buckets file segments addr
  pub size : f.size ≡ chains_from file segments addr
  pub limit : f.size < 2 ^ 40
  pub backed : is_some (range_in segments addr f.size) ≡ true

-- the reach of a table, and how many chain words it has up to there
pub record IsReachOf (r : Reach) (file : List ℕ) (segments : List Segment) (addr : ℕ) : Type 0 where
  pub reach : r.reach ≡ gnu_reach file segments addr
  pub words : r.words ≡ words_below (symoffset file segments addr) (gnu_reach file segments addr)
  pub ended : has_end (gnu_buckets file segments addr) (gnu_reach file segments addr) ≡ true
  pub backed : is_some (gnu_place file segments addr) ≡ true
  pub limit : 4 * r.words ≤ length file

-- its last chain does not end, or not where memory has it from the file
abbrev pub HasNoReach : List ℕ → List Segment → ℕ → Type 0
HasNoReach file segments addr =
    (is_some (gnu_place file segments addr)
    && has_end (gnu_buckets file segments addr) (gnu_reach file segments addr)) ≡ false
