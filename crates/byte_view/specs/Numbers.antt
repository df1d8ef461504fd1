-- Numbers in the bytes of a file: the lowest byte first (System V gABI, Data Encoding,
-- ELFDATA2LSB).
use Rattle.std.specs.Prelude.{ℕ, List, drop}
use Rattle.byteorder.specs.Endian.{little_bytes, little_number}

-- The number in the n bytes at a place.
unfoldable pub number_at : ℕ → List ℕ → ℕ → ℕ
number_at n bytes at = little_number n (drop at bytes)

-- The word of n bytes that tells a number.
unfoldable pub word_bytes : ℕ → ℕ → List ℕ
word_bytes n x = little_bytes n x
