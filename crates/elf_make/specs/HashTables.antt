-- The symbol hash tables of a made file, each with one bucket (System V gABI, Hash Table; the GNU
-- hash table)
use Rattle.std.specs.Prelude.{ℕ, ◌+◌, ◌-◌, ◌*◌, ◌/◌, ◌%◌, ◌^◌, cond, List, [], ◌∷◌, ◌++◌, map, drop, fold, bit_or}
use Rattle.std.specs.List.{range_with_len}
use Rattle.elf_shape.specs.Bytes.{words, longs}
use Rattle.elf_shape.specs.Versions.{is_none_of}
use Rattle.elf_shape.specs.declared.symbols.Symbol.{Symbol}

-- nbucket, nchain, the bucket, the chain: the bucket holds the greatest index, and each symbol
-- leads to the one before
unfoldable pub made_sysv_table : ℕ → List ℕ
made_sysv_table count =
    words (1 ∷ count ∷ (count - 1) ∷ []) ++ words (map (λ i. i - 1) (range_with_len 0 count))

-- two bits of the Bloom word stand for a hash
abbrev pub made_bloom_shift : ℕ
made_bloom_shift = 6

abbrev pub with_bits : ℕ → ℕ → ℕ
with_bits word hash =
    bit_or (bit_or word (2 ^ (hash % 64))) (2 ^ (hash / 2 ^ made_bloom_shift % 64))

-- the word with exactly the bits of these hashes
unfoldable pub bloom_word : List ℕ → ℕ
bloom_word hashes = fold with_bits 0 hashes

-- the hashes with the low bit 0, but 1 in the last, which ends the chain
abbrev pub chain_words : List ℕ → List ℕ
chain_words [] = []
chain_words (hash ∷ []) = (2 * (hash / 2) + 1) ∷ []
chain_words (hash ∷ next ∷ more) = (2 * (hash / 2)) ∷ chain_words (next ∷ more)

-- nbuckets, symoffset, bloom_size, bloom_shift; the Bloom word; the bucket; the chain of the hashes
-- of the listed symbols
unfoldable pub gnu_words : ℕ → List ℕ → List ℕ
gnu_words offset hashes =
    words (1 ∷ offset ∷ 1 ∷ made_bloom_shift ∷ []) ++ (longs (bloom_word hashes ∷ [])
    ++ (words (cond (is_none_of hashes) 0 offset ∷ []) ++ words (chain_words hashes)))

-- the table that lists the symbols from symoffset on
unfoldable pub made_gnu_table : ℕ → List Symbol → List ℕ
made_gnu_table offset symbols = gnu_words offset (map (λ s. s.hash) (drop offset symbols))
