-- Words of 32 and of 64 bits that follow one another, read through memory (System V gABI, Data
-- Encoding and Program Loading)
use Rattle.std.specs.Prelude.{ℕ, ◌+◌, ◌*◌, List, map}
use Rattle.std.specs.List.{range_with_len}
use Rattle.byte_view.specs.Memory.{memory_bytes}
use Rattle.byte_view.specs.Numbers.{number_at}
use Rattle.byte_view.specs.declared.segments.Segment.{Segment}

-- the word of some bytes at an address
unfoldable pub word_in : ℕ → List ℕ → List Segment → ℕ → ℕ
word_in size file segments addr = number_at size (memory_bytes file segments addr size) 0

-- so many of them, from an address on
unfoldable pub words_in : ℕ → List ℕ → List Segment → ℕ → ℕ → List ℕ
words_in size file segments addr n =
    map (λ i. word_in size file segments (addr + size * i)) (range_with_len 0 n)
