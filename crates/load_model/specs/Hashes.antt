-- The hash functions of symbol names (System V gABI, Hash Table; the GNU hash table)
use Rattle.std.specs.Prelude.{ℕ, ◌+◌, ◌-◌, ◌*◌, ◌/◌, ◌%◌, ◌^◌, List, fold, bit_and, bit_xor}

-- the high four bits are mixed into the low ones, and taken off
abbrev pub sysv_mixed : ℕ → ℕ
sysv_mixed h =
    bit_and (bit_xor h (bit_and h 4026531840 / 2 ^ 24)) (4294967295 - bit_and h 4026531840)

unfoldable pub sysv_step : ℕ → ℕ → ℕ
sysv_step h c = sysv_mixed ((16 * h + c) % 2 ^ 32)

abbrev pub sysv_hash : List ℕ → ℕ
sysv_hash name = fold sysv_step 0 name

unfoldable pub gnu_step : ℕ → ℕ → ℕ
gnu_step h c = (33 * h + c) % 2 ^ 32

abbrev pub gnu_hash : List ℕ → ℕ
gnu_hash name = fold gnu_step 5381 name
