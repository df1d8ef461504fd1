-- The symbols of a file that were read, and the hash tables that were found
use Rattle.std.specs.Prelude.{ℕ, ◌≡◌, ◌≤◌, ◌-◌, List, Option, None, drop, length, take}
use Rattle.byte_view.specs.Dynamic.{dynamic_entries, value_of}
use Rattle.byte_view.specs.Headers.{headers}
use Rattle.byte_view.specs.declared.constants.TheConstants.{DT_HASH, DT_GNU_HASH}
use Rattle.byte_view.specs.declared.dynamic.Entry.{Entry}
use Rattle.byte_view.specs.declared.segments.Segment.{Segment}
use Rattle.load_model.specs.SymbolFlaws.{count_by, gnu_in, gnu_range, sysv_in, symbol_count, symbol_flaw, symbols_by, symbols_of, sysv_range}
use Rattle.std.specs.Option.{option_and_then}
use Rattle.load_model.specs.GnuTable.{GnuTable, gnu_place}
use Rattle.load_model.specs.SysvTable.{SysvTable, sysv_place}
use Rattle.load_model.specs.declared.symbols.RawSym.{RawSym}
use Rattle.sym_tables.specs.FoundTables.{IsGnuAt, IsSysvAt}
use Rattle.sym_tables.specs.Listing.{file_strings}
use Rattle.sym_tables.specs.declared.tables.Tables.{Tables}

-- how many symbols there are, their words by index, where the hash tables begin and end in the
-- file, the hash tables, and where the string table begins and ends
pub record Symbols : Type 0 where
  pub count : ℕ
  pub raw : List RawSym
  pub hash_range : Option (ℕ × ℕ)
  pub gnu_range : Option (ℕ × ℕ)
  pub sysv : Option SysvTable
  pub gnu : Option GnuTable
  pub strings : ℕ × ℕ

-- the string table stands in the file at this range
pub record AreStringsAt (range : ℕ × ℕ) (file : List ℕ) : Type 0 where
  pub same : take (range.1 - range.0) (drop range.0 file) ≡ file_strings file
  pub order : range.0 ≤ range.1
  pub within : range.1 ≤ length file

-- they are those of the file, which has no flaw there
pub record IsSymsOf (s : Symbols) (file : List ℕ) : Type 0 where
  pub unflawed : symbol_flaw file ≡ None
  pub count : s.count ≡ symbol_count file
  pub raw : s.raw ≡ symbols_of file
  pub hash_range : s.hash_range ≡ sysv_range file
  pub gnu_range : s.gnu_range ≡ gnu_range file
  pub sysv : s.sysv ≡ sysv_in file (headers file) (dynamic_entries file)
  pub gnu : s.gnu ≡ gnu_in file (headers file) (dynamic_entries file)
  pub strings : AreStringsAt s.strings file

-- the hash tables are those that the dynamic table names
pub record AreHashTablesOf (t : Tables) (file : List ℕ) (segments : List Segment)
    (entries : List Entry) : Type 0 where
  pub sysv : IsSysvAt t.sysv file segments (value_of DT_HASH entries)
  pub gnu : IsGnuAt t.gnu file segments (value_of DT_GNU_HASH entries)

-- the same over headers and dynamic entries
pub record AreSymsBy (s : Symbols) (file : List ℕ) (segments : List Segment)
    (entries : List Entry) : Type 0 where
  pub count : s.count ≡ count_by file segments entries
  pub raw : s.raw ≡ symbols_by file segments entries
  pub hash_range : s.hash_range
      ≡ option_and_then (λ addr. sysv_place file segments addr) (value_of DT_HASH entries)
  pub gnu_range : s.gnu_range
      ≡ option_and_then (λ addr. gnu_place file segments addr) (value_of DT_GNU_HASH entries)
  pub sysv : s.sysv ≡ sysv_in file segments entries
  pub gnu : s.gnu ≡ gnu_in file segments entries
  pub strings : AreStringsAt s.strings file
