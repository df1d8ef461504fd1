-- The symbols of the chain that the hash of a name leads to (System V gABI, Hash Table; the hash
-- table of the GNU tools)
use Rattle.std.specs.Prelude.{ℕ, ◌+◌, ◌-◌, ◌/◌, ◌%◌, ◌==◌, ◌||◌, cond, nat_lt, List, [], ◌∷◌, length, slice_index, drop}
use Rattle.load_model.specs.GnuTable.{GnuTable, is_last, passes_bloom}
use Rattle.load_model.specs.SysvTable.{SysvTable, chain}

-- the chain from a symbol and its word on, each symbol with its word; the first odd word is the
-- last
unfoldable pub chain_along : ℕ → List ℕ → List (ℕ × ℕ)
chain_along i [] = []
chain_along i (w ∷ more) = (i, w) ∷ cond (is_last w) [] (chain_along (i + 1) more)

-- the chain that begins at a symbol of a table: none at 0, and below the first listed one
unfoldable pub chain_at : GnuTable → ℕ → List (ℕ × ℕ)
chain_at t first =
    cond ((first == 0) || nat_lt first t.offset) []
    (chain_along first (drop (first - t.offset) t.words))

-- the first symbol of a hash's bucket
unfoldable pub first_of : List ℕ → ℕ → ℕ
first_of buckets hash = slice_index buckets (hash % length buckets)

unfoldable pub gnu_chain : GnuTable → ℕ → List (ℕ × ℕ)
gnu_chain t hash = chain_at t (first_of t.buckets hash)

-- those of a chain whose word is the hash but for the low bit
unfoldable pub with_hash : ℕ → List (ℕ × ℕ) → List ℕ
with_hash hash [] = []
with_hash hash (p ∷ more) =
    cond (p.1 / 2 == hash / 2) (p.0 ∷ with_hash hash more) (with_hash hash more)

-- the symbols whose names are compared: none where the Bloom filter lets the hash not pass
unfoldable pub gnu_matches : GnuTable → ℕ → List ℕ
gnu_matches t hash = cond (passes_bloom t hash) (with_hash hash (gnu_chain t hash)) []

unfoldable pub sysv_chain : SysvTable → ℕ → List ℕ
sysv_chain t hash = chain (length t.chains) t.chains (first_of t.buckets hash)
