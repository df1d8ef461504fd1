-- Numbers in a made file, the lowest byte first (System V gABI, Data Encoding, ELFDATA2LSB), and
-- what fills a part up
use Rattle.std.specs.Prelude.{ℕ, ◌-◌, ◌%◌, List, ◌++◌, length, flat_map, replicate}
use Rattle.byteorder.specs.Endian.{little_bytes}

-- numbers of two bytes each, one after another
unfoldable pub halves : List ℕ → List ℕ
halves numbers = flat_map (λ n. little_bytes 2 n) numbers

-- of four bytes each
unfoldable pub words : List ℕ → List ℕ
words numbers = flat_map (λ n. little_bytes 4 n) numbers

-- of eight bytes each
unfoldable pub longs : List ℕ → List ℕ
longs numbers = flat_map (λ n. little_bytes 8 n) numbers

-- a part, and zeros up to a length that 8 divides
unfoldable pub padded : List ℕ → List ℕ
padded part = part ++ replicate ((8 - length part % 8) % 8) 0
