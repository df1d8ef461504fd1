-- The hash table of the GNU tools
use Rattle.std.specs.Prelude.{ℕ, ◌+◌, ◌-◌, ◌*◌, ◌/◌, ◌%◌, ◌^◌, Bool, cond, not, ◌==◌, ◌&&◌, ◌||◌, nat_lt, nat_le, max, List, Option, Some, None, length, is_some, fold, slice_index, take, drop}
use Rattle.std.specs.Int.{is_power_of_two}
use Rattle.std.specs.List.{find, list_all, list_any, range_with_len}
use Rattle.std.specs.Option.{option_map}
use Rattle.byte_view.specs.Memory.{range_in}
use Rattle.byte_view.specs.declared.segments.Segment.{Segment}
use Rattle.load_model.specs.TableWords.{word_in, words_in}

-- the first listed symbol and the shift of the Bloom filter, its words, the first symbol of each
-- bucket, and the chain words of the symbols from the first listed one on
pub record GnuTable : Type 0 where
  pub offset : ℕ
  pub shift : ℕ
  pub bloom : List ℕ
  pub buckets : List ℕ
  pub words : List ℕ

-- the table at an address: nbuckets, symoffset, bloom_size, bloom_shift, the Bloom words, the
-- buckets, the chain words
abbrev pub nbuckets : List ℕ → List Segment → ℕ → ℕ
nbuckets file segments addr = word_in 4 file segments addr

abbrev pub symoffset : List ℕ → List Segment → ℕ → ℕ
symoffset file segments addr = word_in 4 file segments (addr + 4)

abbrev pub bloom_size : List ℕ → List Segment → ℕ → ℕ
bloom_size file segments addr = word_in 4 file segments (addr + 8)

abbrev pub bloom_shift : List ℕ → List Segment → ℕ → ℕ
bloom_shift file segments addr = word_in 4 file segments (addr + 12)

abbrev pub bloom_words : List ℕ → List Segment → ℕ → List ℕ
bloom_words file segments addr =
    words_in 8 file segments (addr + 16) (bloom_size file segments addr)

abbrev pub gnu_buckets : List ℕ → List Segment → ℕ → List ℕ
gnu_buckets file segments addr =
    words_in 4 file segments (addr + 16 + 8 * bloom_size file segments addr)
    (nbuckets file segments addr)

-- how many bytes stand before the chain words
abbrev pub chains_from : List ℕ → List Segment → ℕ → ℕ
chains_from file segments addr =
    16 + 8 * bloom_size file segments addr + 4 * nbuckets file segments addr

-- the chain word of a symbol; its low bit says that the chain ends there
abbrev pub chain_word : List ℕ → List Segment → ℕ → ℕ → ℕ
chain_word file segments addr i =
    word_in 4 file segments (addr + chains_from file segments addr + 4 * (i - symoffset file
    segments addr))

abbrev pub is_last : ℕ → Bool
is_last word = word % 2 == 1

abbrev pub greatest : List ℕ → ℕ
greatest buckets = fold max 0 buckets

-- the last symbol of the chain that begins at a symbol; a file has fewer words than bytes
unfoldable pub last_from : List ℕ → List Segment → ℕ → ℕ → Option ℕ
last_from file segments addr top =
    find (λ i. is_last (chain_word file segments addr i)) (range_with_len top (length file))

-- the reach: one more than the last symbol of the chain that begins at the greatest bucket. None
-- where all buckets are 0, and where the chain has no end
abbrev pub reach_above : List ℕ → List Segment → ℕ → ℕ → Option ℕ
reach_above file segments addr top =
    cond (top == 0) None (option_map (λ i. i + 1) (last_from file segments addr top))

unfoldable pub gnu_reach : List ℕ → List Segment → ℕ → Option ℕ
gnu_reach file segments addr =
    reach_above file segments addr (greatest (gnu_buckets file segments addr))

-- how many chain words there are below the reach
abbrev pub words_below : ℕ → Option ℕ → ℕ
words_below offset None = 0
words_below offset (Some reach) = reach - offset

unfoldable pub gnu_table : List ℕ → List Segment → ℕ → GnuTable
gnu_table file segments addr = record {
  offset = symoffset file segments addr;
  shift = bloom_shift file segments addr;
  bloom = bloom_words file segments addr;
  buckets = gnu_buckets file segments addr;
  words =
      words_in 4 file segments (addr + chains_from file segments addr)
      (words_below (symoffset file segments addr) (gnu_reach file segments addr));
}

-- how many bytes it has, and where they begin and end in the file
abbrev pub gnu_size : List ℕ → List Segment → ℕ → ℕ
gnu_size file segments addr =
    chains_from file segments addr
    + 4 * words_below (symoffset file segments addr) (gnu_reach file segments addr)

unfoldable pub gnu_place : List ℕ → List Segment → ℕ → Option (ℕ × ℕ)
gnu_place file segments addr = range_in segments addr (gnu_size file segments addr)

-- the chain that begins at the greatest bucket ends, if there is one
abbrev pub has_end : List ℕ → Option ℕ → Bool
has_end buckets reach = (greatest buckets == 0) || is_some reach

-- a bucket at least, as many Bloom words as a power of two, a shift within a hash, and buckets that
-- begin chains
unfoldable pub is_gnu_sound : GnuTable → Bool
is_gnu_sound t =
    nat_le 1 (length t.buckets)
    && (is_power_of_two (length t.bloom)
    && (nat_lt t.shift 32
    && list_all (λ b. (b == 0) || nat_le t.offset b) t.buckets))

-- the Bloom filter lets the hash pass: both of its bits are set in its word
abbrev pub has_bit_of : ℕ → ℕ → Bool
has_bit_of word bit = word / 2 ^ bit % 2 == 1

unfoldable pub passes_bloom : GnuTable → ℕ → Bool
passes_bloom t hash =
    has_bit_of (slice_index t.bloom (hash / 64 % length t.bloom)) (hash % 64)
    && has_bit_of (slice_index t.bloom (hash / 64 % length t.bloom)) (hash / 2 ^ t.shift % 64)

-- the symbol stands in the chain that begins at another: no word from there up to it ends the chain
unfoldable pub is_in_run : ℕ → List ℕ → ℕ → ℕ → Bool
is_in_run offset words first i =
    not (first == 0) && (nat_le offset first && (nat_le first i && (nat_lt i (offset + length words)
    && not (list_any is_last (take (i - first) (drop (first - offset) words))))))

-- the table lists the symbol under the hash of its name: the filter lets it pass, and the symbol
-- stands in the chain of the hash's bucket with a word that is the hash but for the low bit
unfoldable pub gnu_lists : GnuTable → ℕ → ℕ → Bool
gnu_lists t hash i =
    passes_bloom t hash
    && (is_in_run t.offset t.words (slice_index t.buckets (hash % length t.buckets)) i
    && (slice_index t.words (i - t.offset) / 2 == hash / 2))
