-- How many symbols a file has: by its sections, by the hash table, by the GNU hash table (System V
-- gABI, Sections and Hash Table)
use Rattle.std.specs.Prelude.{ℕ, ◌+◌, ◌*◌, ◌/◌, Bool, cond, ◌==◌, ◌&&◌, nat_le, List, Option, Some, None, length, map}
use Rattle.std.specs.List.{find, range_with_len}
use Rattle.std.specs.Option.{option_and_then, option_map}
use Rattle.byte_view.specs.Dynamic.{value_of}
use Rattle.byte_view.specs.Headers.{e_shoff, e_shentsize, e_shnum}
use Rattle.byte_view.specs.Numbers.{number_at}
use Rattle.byte_view.specs.declared.constants.TheConstants.{DT_HASH, DT_GNU_HASH, SHDR_SIZE, SHT_DYNSYM}
use Rattle.byte_view.specs.declared.dynamic.Entry.{Entry}
use Rattle.byte_view.specs.declared.segments.Segment.{Segment}
use Rattle.load_model.specs.GnuTable.{gnu_reach}
use Rattle.load_model.specs.SymbolTable.{symbols_at}
use Rattle.load_model.specs.SysvTable.{nchain}

-- the fields of a section header that are looked at; it has 64 bytes
abbrev pub sh_type : List ℕ → ℕ → ℕ
sh_type file at = number_at 4 file (at + 4)

abbrev pub sh_addr : List ℕ → ℕ → ℕ
sh_addr file at = number_at 8 file (at + 16)

abbrev pub sh_size : List ℕ → ℕ → ℕ
sh_size file at = number_at 8 file (at + 32)

-- the file has section headers of the one size, all of them
abbrev pub has_sections : List ℕ → Bool
has_sections file =
    (e_shentsize file == SHDR_SIZE) && nat_le (e_shoff file + 64 * e_shnum file) (length file)

-- a section of dynamic symbols that begins at this address
abbrev pub is_section_of : List ℕ → ℕ → ℕ → Bool
is_section_of file addr at = (sh_type file at == SHT_DYNSYM) && (sh_addr file at == addr)

-- the places of the section headers
abbrev pub section_places : List ℕ → List ℕ
section_places file = map (λ i. e_shoff file + 64 * i) (range_with_len 0 (e_shnum file))

-- by the first section of dynamic symbols that begins at the address of the symbols: how many fit
-- in its size
unfoldable pub section_count : List ℕ → List Entry → Option ℕ
section_count file entries =
    cond (has_sections file) (option_map (λ at. sh_size file at / 24) (find (λ at. is_section_of
    file (symbols_at entries) at) (section_places file))) None

-- by the hash table: it has a chain word for each symbol
abbrev pub hash_count : List ℕ → List Segment → List Entry → Option ℕ
hash_count file segments entries =
    option_map (λ addr. nchain file segments addr) (value_of DT_HASH entries)

-- by the GNU hash table: its reach
abbrev pub reach_count : List ℕ → List Segment → List Entry → Option ℕ
reach_count file segments entries =
    option_and_then (λ addr. gnu_reach file segments addr) (value_of DT_GNU_HASH entries)

-- the first of the three that there is
abbrev pub first_count : Option ℕ → Option ℕ → Option ℕ → Option ℕ
first_count (Some count) hash reach = Some count
first_count None (Some count) reach = Some count
first_count None None reach = reach

unfoldable pub count_in : List ℕ → List Segment → List Entry → Option ℕ
count_in file segments entries =
    first_count (section_count file entries) (hash_count file segments entries)
    (reach_count file segments entries)
