-- The hash table of the System V gABI (Hash Table)
use Rattle.std.specs.Prelude.{ℕ, zero, suc, ◌+◌, ◌*◌, ◌%◌, ◌≡◌, ◌≢◌, Bool, cond, ◌==◌, ◌&&◌, ◌||◌, nat_lt, nat_le, List, [], ◌∷◌, Option, length, slice_index}
use Rattle.std.specs.List.{list_all, list_any}
use Rattle.byte_view.specs.Memory.{range_in}
use Rattle.byte_view.specs.declared.segments.Segment.{Segment}
use Rattle.load_model.specs.TableWords.{word_in, words_in}

-- the first symbol of each bucket, and for each symbol the next of its chain; 0 is no symbol
pub record SysvTable : Type 0 where
  pub buckets : List ℕ
  pub chains : List ℕ

-- the table at an address: nbucket, nchain, the buckets, the chain words
abbrev pub nbucket : List ℕ → List Segment → ℕ → ℕ
nbucket file segments addr = word_in 4 file segments addr

abbrev pub nchain : List ℕ → List Segment → ℕ → ℕ
nchain file segments addr = word_in 4 file segments (addr + 4)

unfoldable pub sysv_table : List ℕ → List Segment → ℕ → SysvTable
sysv_table file segments addr = record {
  buckets = words_in 4 file segments (addr + 8) (nbucket file segments addr);
  chains =
      words_in 4 file segments (addr + 8 + 4 * nbucket file segments addr)
      (nchain file segments addr);
}

-- how many bytes it has, and where they begin and end in the file
abbrev pub sysv_size : List ℕ → List Segment → ℕ → ℕ
sysv_size file segments addr = 8 + 4 * nbucket file segments addr + 4 * nchain file segments addr

unfoldable pub sysv_place : List ℕ → List Segment → ℕ → Option (ℕ × ℕ)
sysv_place file segments addr = range_in segments addr (sysv_size file segments addr)

-- a list is the chain from a symbol on: each followed by its chain word, up to 0
abbrev pub IsChain : List ℕ → ℕ → List ℕ → Type 0
IsChain chains at [] = at ≡ 0
IsChain chains at (i ∷ rest) = (at ≡ i) × (at ≢ 0) × IsChain chains (slice_index chains at) rest

-- the same by steps: the symbols that are met in n steps, and whether 0 is reached in at most n
unfoldable pub chain : ℕ → List ℕ → ℕ → List ℕ
chain zero chains at = []
chain (suc n) chains at = cond (at == 0) [] (at ∷ chain n chains (slice_index chains at))

unfoldable pub ends_in : ℕ → List ℕ → ℕ → Bool
ends_in zero chains at = at == 0
ends_in (suc n) chains at = (at == 0) || ends_in n chains (slice_index chains at)

-- the symbol stands in the chain from another on
unfoldable pub is_in_chain : List ℕ → ℕ → ℕ → Bool
is_in_chain chains at i = list_any (λ j. j == i) (chain (length chains) chains at)

-- a word that is 0 or names a symbol
abbrev pub is_link : ℕ → ℕ → Bool
is_link n w = (w == 0) || nat_lt w n

-- a bucket, words that name symbols, and chains that end
unfoldable pub is_sysv_sound : SysvTable → Bool
is_sysv_sound t =
    nat_le 1 (length t.buckets)
    && (list_all (λ w. is_link (length t.chains) w) t.buckets
    && (list_all (λ w. is_link (length t.chains) w) t.chains
    && list_all (λ at. ends_in (length t.chains) t.chains at) t.buckets))

-- the table lists the symbol under the hash of its name: it stands in the chain of the hash's
-- bucket
unfoldable pub sysv_lists : SysvTable → ℕ → ℕ → Bool
sysv_lists t hash i = is_in_chain t.chains (slice_index t.buckets (hash % length t.buckets)) i
