-- The flaws of the symbols and of the hash tables, in the order in which they are named (System V
-- gABI, Symbol Table and Hash Table; docs/ELF.md)
use Rattle.std.specs.Prelude.{ℕ, ◌*◌, Bool, false, not, ◌==◌, ◌&&◌, nat_lt, nat_le, List, [], ◌∷◌, Option, Some, None, is_some, length, slice_get}
use Rattle.std.specs.List.{find, position_from, range_with_len}
use Rattle.std.specs.Option.{option_and_then, option_map, unwrap_or}
use Rattle.answers.specs.First.{first_some, some_where}
use Rattle.byte_view.specs.Checks.{flaw, flaw_at}
use Rattle.byte_view.specs.Dynamic.{dynamic_entries, strings_of, strings_size, text_in, value_of}
use Rattle.byte_view.specs.Headers.{headers}
use Rattle.byte_view.specs.Memory.{range_in}
use Rattle.byte_view.specs.declared.constants.TheConstants.{DT_HASH, DT_GNU_HASH, SYM_SIZE}
use Rattle.byte_view.specs.declared.dynamic.Entry.{Entry}
use Rattle.byte_view.specs.declared.flaws.Flaw.{Flaw}
use Rattle.byte_view.specs.declared.flaws.TheConstants.{COUNT_DIFFERS, ENTRY_SIZE, HASH_BROKEN, HASH_RANGE, NO_SYMBOL_COUNT, SYMBOL_NAME, SYMBOL_RANGE}
use Rattle.byte_view.specs.declared.segments.Segment.{Segment}
use Rattle.load_model.specs.GnuTable.{GnuTable, gnu_buckets, gnu_lists, gnu_place, gnu_reach, gnu_table, has_end, is_gnu_sound}
use Rattle.load_model.specs.Hashes.{gnu_hash, sysv_hash}
use Rattle.load_model.specs.SymbolCount.{count_in, hash_count, reach_count, section_count}
use Rattle.load_model.specs.SymbolTable.{symbol_size, symbols_at, symbols_in}
use Rattle.load_model.specs.SymbolWords.{has_bindable_words}
use Rattle.load_model.specs.SysvTable.{SysvTable, is_sysv_sound, sysv_lists, sysv_place, sysv_table}
use Rattle.load_model.specs.declared.symbols.RawSym.{RawSym}

-- 23, EntrySize: symbols of another size
abbrev pub wrong_symbol_size : List Entry → Option Flaw
wrong_symbol_size entries =
    some_where (not (symbol_size entries == SYM_SIZE)) (flaw ENTRY_SIZE (symbol_size entries) 0)

-- 24, HashRange: a hash table that is not backed, or breaks a rule of its kind
abbrev pub is_sysv_whole : List ℕ → List Segment → ℕ → Bool
is_sysv_whole file segments addr =
    is_some (sysv_place file segments addr) && is_sysv_sound (sysv_table file segments addr)

abbrev pub bad_sysv : List ℕ → List Segment → Option ℕ → Option Flaw
bad_sysv file segments None = None
bad_sysv file segments (Some addr) =
    some_where (not (is_sysv_whole file segments addr)) (flaw HASH_RANGE DT_HASH 0)

abbrev pub is_gnu_whole : List ℕ → List Segment → ℕ → Bool
is_gnu_whole file segments addr =
    is_some (gnu_place file segments addr)
    && (has_end (gnu_buckets file segments addr) (gnu_reach file segments addr)
    && is_gnu_sound (gnu_table file segments addr))

abbrev pub bad_gnu : List ℕ → List Segment → Option ℕ → Option Flaw
bad_gnu file segments None = None
bad_gnu file segments (Some addr) =
    some_where (not (is_gnu_whole file segments addr)) (flaw HASH_RANGE DT_GNU_HASH 0)

unfoldable pub hash_flaw : List ℕ → List Segment → List Entry → Option Flaw
hash_flaw file segments entries =
    first_some (bad_sysv file segments (value_of DT_HASH entries) ∷ bad_gnu file segments (value_of
    DT_GNU_HASH entries) ∷ [])

-- 25, NoSymbolCount: nothing says how many symbols there are
abbrev pub no_count : Option ℕ → Option Flaw
no_count count = some_where (not (is_some count)) (flaw NO_SYMBOL_COUNT 0 0)

-- 26, CountDiffers: the section and the hash table say other numbers
abbrev pub differing_counts : Option ℕ → Option ℕ → Option Flaw
differing_counts None hash = None
differing_counts (Some section) None = None
differing_counts (Some section) (Some hash) =
    some_where (not (section == hash)) (flaw COUNT_DIFFERS section hash)

-- or the GNU hash table reaches past the symbols
abbrev pub reach_past : ℕ → Option ℕ → Option Flaw
reach_past count None = None
reach_past count (Some reach) = some_where (nat_lt count reach) (flaw COUNT_DIFFERS count reach)

unfoldable pub count_flaw : List ℕ → List Segment → List Entry → Option Flaw
count_flaw file segments entries =
    first_some (no_count (count_in file segments entries) ∷ differing_counts (section_count file
    entries) (hash_count file segments entries)
    ∷ reach_past (unwrap_or (count_in file segments entries) 0)
    (reach_count file segments entries) ∷ [])

-- 27, SymbolRange: memory does not have the symbols from the file
abbrev pub unbacked_symbols : List Segment → ℕ → ℕ → Option Flaw
unbacked_symbols segments addr count =
    some_where (not (is_some (range_in segments addr (24 * count)))) (flaw SYMBOL_RANGE 0 0)

-- 28, SymbolName: a name that lies past the string table, the first such symbol
abbrev pub bad_symbol_name : ℕ → List RawSym → Option Flaw
bad_symbol_name size symbols =
    flaw_at SYMBOL_NAME (position_from (λ s. nat_le size s.name) 0 symbols)

-- a symbol that other objects may bind to by name; the symbol of index 0 is none
abbrev pub is_offerable : ℕ → RawSym → Bool
is_offerable i s = not (i == 0) && has_bindable_words s

-- the name of a symbol
abbrev pub name_in : List ℕ → RawSym → List ℕ
name_in strings s = unwrap_or (text_in strings s.name) []

-- the hash tables, where the file has them
abbrev pub sysv_in : List ℕ → List Segment → List Entry → Option SysvTable
sysv_in file segments entries =
    option_map (λ addr. sysv_table file segments addr) (value_of DT_HASH entries)

abbrev pub gnu_in : List ℕ → List Segment → List Entry → Option GnuTable
gnu_in file segments entries =
    option_map (λ addr. gnu_table file segments addr) (value_of DT_GNU_HASH entries)

-- each table that is there lists the symbol, and there is one
abbrev pub is_listed : Option SysvTable → Option GnuTable → List ℕ → ℕ → Bool
is_listed None None name i = false
is_listed (Some sysv) None name i = sysv_lists sysv (sysv_hash name) i
is_listed None (Some gnu) name i = gnu_lists gnu (gnu_hash name) i
is_listed (Some sysv) (Some gnu) name i =
    sysv_lists sysv (sysv_hash name) i && gnu_lists gnu (gnu_hash name) i

abbrev pub is_lost : Option SysvTable → Option GnuTable → List ℕ → ℕ → Option RawSym → Bool
is_lost sysv gnu strings i None = false
is_lost sysv gnu strings i (Some s) =
    is_offerable i s && not (is_listed sysv gnu (name_in strings s) i)

-- 29, HashBroken: a symbol that other objects may bind to, and that a hash table does not list; the
-- first such symbol
unfoldable pub first_lost : Option SysvTable → Option GnuTable → List ℕ → List RawSym → Option ℕ
first_lost sysv gnu strings symbols =
    find (λ i. is_lost sysv gnu strings i (slice_get symbols i)) (range_with_len 0 (length symbols))

abbrev pub broken_hash : Option SysvTable → Option GnuTable → List ℕ → List RawSym → Option Flaw
broken_hash sysv gnu strings symbols = flaw_at HASH_BROKEN (first_lost sysv gnu strings symbols)

unfoldable pub list_flaw : List ℕ → List Segment → List Entry → List RawSym → Option Flaw
list_flaw file segments entries symbols =
    first_some (bad_symbol_name (strings_size entries) symbols ∷ broken_hash (sysv_in file segments
    entries) (gnu_in file segments entries) (strings_of file segments entries) symbols ∷ [])

-- the same over headers and dynamic entries
abbrev pub count_by : List ℕ → List Segment → List Entry → ℕ
count_by file segments entries = unwrap_or (count_in file segments entries) 0

abbrev pub symbols_by : List ℕ → List Segment → List Entry → List RawSym
symbols_by file segments entries =
    symbols_in file segments (symbols_at entries) (count_by file segments entries)

unfoldable pub symbol_flaw_by : List ℕ → List Segment → List Entry → Option Flaw
symbol_flaw_by file segments entries =
    first_some (wrong_symbol_size entries ∷ hash_flaw file segments entries ∷ count_flaw file
    segments entries ∷ unbacked_symbols segments (symbols_at entries) (count_by file segments
    entries) ∷ list_flaw file segments entries (symbols_by file segments entries) ∷ [])

-- the first flaw of the symbols and hash tables of a file whose headers and dynamic table have none
unfoldable pub symbol_flaw : List ℕ → Option Flaw
symbol_flaw file = symbol_flaw_by file (headers file) (dynamic_entries file)

-- how many symbols such a file has, and the symbols
unfoldable pub symbol_count : List ℕ → ℕ
symbol_count file = count_by file (headers file) (dynamic_entries file)

unfoldable pub symbols_of : List ℕ → List RawSym
symbols_of file = symbols_by file (headers file) (dynamic_entries file)

-- where its hash tables begin and end in the file, the GNU hash table with the chain words below
-- its reach
unfoldable pub sysv_range : List ℕ → Option (ℕ × ℕ)
sysv_range file =
    option_and_then (λ addr. sysv_place file (headers file) addr)
    (value_of DT_HASH (dynamic_entries file))

unfoldable pub gnu_range : List ℕ → Option (ℕ × ℕ)
gnu_range file =
    option_and_then (λ addr. gnu_place file (headers file) addr)
    (value_of DT_GNU_HASH (dynamic_entries file))
