-- The flaws of the list of symbols, by the hash tables that were found
use Rattle.std.specs.Prelude.{ℕ, List, [], ◌∷◌, Option}
use Rattle.std.specs.Option.{option_map}
use Rattle.answers.specs.First.{first_some}
use Rattle.byte_view.specs.declared.dynamic.Entry.{Entry}
use Rattle.byte_view.specs.declared.flaws.Flaw.{Flaw}
use Rattle.byte_view.specs.declared.segments.Segment.{Segment}
use Rattle.byte_view.specs.Dynamic.{dynamic_entries, strings_of}
use Rattle.byte_view.specs.Headers.{headers}
use Rattle.load_model.specs.GnuTable.{GnuTable}
use Rattle.load_model.specs.SymbolFlaws.{bad_symbol_name, broken_hash, count_by, count_flaw, list_flaw, symbols_by, unbacked_symbols}
use Rattle.load_model.specs.SymbolTable.{symbols_at}
use Rattle.load_model.specs.SysvTable.{SysvTable}
use Rattle.load_model.specs.declared.symbols.RawSym.{RawSym}
use Rattle.sym_tables.specs.declared.gnu.FoundGnu.{FoundGnu}
use Rattle.sym_tables.specs.declared.sysv.FoundSysv.{FoundSysv}

-- the string table of a file
abbrev pub file_strings : List ℕ → List ℕ
file_strings file = strings_of file (headers file) (dynamic_entries file)

abbrev pub sysv_of : Option FoundSysv → Option SysvTable
sysv_of found = option_map (λ f. f.table) found

abbrev pub gnu_of : Option FoundGnu → Option GnuTable
gnu_of found = option_map (λ f. f.table) found

-- the flaws of the list of symbols, by what was read
unfoldable pub lists_flaw : ℕ → Option SysvTable → Option GnuTable → List ℕ → List RawSym
    → Option Flaw
lists_flaw size sysv gnu strings symbols =
    first_some (bad_symbol_name size symbols ∷ broken_hash sysv gnu strings symbols ∷ [])

-- the flaws that are looked for once the hash tables have none
unfoldable pub flaw_behind_tables : List ℕ → List Segment → List Entry → Option Flaw
flaw_behind_tables file segments entries =
    first_some (count_flaw file segments entries ∷ unbacked_symbols segments (symbols_at entries)
    (count_by file segments entries) ∷ list_flaw file segments entries (symbols_by file segments
    entries) ∷ [])
