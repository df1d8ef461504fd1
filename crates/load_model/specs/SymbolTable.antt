-- The symbols of a file, read through memory (System V gABI, Symbol Table)
use Rattle.std.specs.Prelude.{ℕ, ◌+◌, ◌*◌, List, map}
use Rattle.std.specs.List.{range_with_len}
use Rattle.std.specs.Option.{unwrap_or}
use Rattle.byte_view.specs.Dynamic.{value_of}
use Rattle.byte_view.specs.Memory.{memory_bytes}
use Rattle.byte_view.specs.Numbers.{number_at}
use Rattle.byte_view.specs.declared.constants.TheConstants.{DT_SYMTAB, DT_SYMENT}
use Rattle.byte_view.specs.declared.dynamic.Entry.{Entry}
use Rattle.byte_view.specs.declared.segments.Segment.{Segment}
use Rattle.load_model.specs.declared.symbols.RawSym.{RawSym}

-- where the symbols begin in memory, and how many bytes each is said to have
abbrev pub symbols_at : List Entry → ℕ
symbols_at entries = unwrap_or (value_of DT_SYMTAB entries) 0

abbrev pub symbol_size : List Entry → ℕ
symbol_size entries = unwrap_or (value_of DT_SYMENT entries) 0

-- the symbol in the 24 bytes at a place
unfoldable pub symbol_of : List ℕ → ℕ → RawSym
symbol_of bytes at = record {
  name = number_at 4 bytes at;
  info = number_at 1 bytes (at + 4);
  other = number_at 1 bytes (at + 5);
  section = number_at 2 bytes (at + 6);
  value = number_at 8 bytes (at + 8);
}

-- so many symbols, as memory has them from an address on
unfoldable pub symbols_in : List ℕ → List Segment → ℕ → ℕ → List RawSym
symbols_in file segments addr count =
    map (λ i. symbol_of (memory_bytes file segments (addr + 24 * i) 24) 0) (range_with_len 0 count)
