-- What the tables of a file mean: its symbols, and a hash table that lists those that other objects
-- may bind to
use Rattle.std.specs.Prelude.{ℕ, ◌≡◌, ◌≢◌, Bool, true, false, List, [], Option, Some, None, map, slice_get}
use Rattle.std.specs.List.{zip}
use Rattle.byte_view.specs.Dynamic.{dynamic_entries}
use Rattle.byte_view.specs.Headers.{headers}
use Rattle.hash_lookup.specs.Chains.{gnu_chain, gnu_matches, sysv_chain}
use Rattle.hash_lookup.specs.declared.tables.Table.{Table}
use Rattle.hash_lookup.specs.declared.tables.Table.TheVariants.{Gnu, Sysv, Absent}
use Rattle.load_model.specs.Faces.{sym_of}
use Rattle.load_model.specs.GnuTable.{GnuTable, gnu_lists}
use Rattle.load_model.specs.Hashes.{gnu_hash, sysv_hash}
use Rattle.load_model.specs.Offers.{Offered}
use Rattle.load_model.specs.SymbolFlaws.{gnu_in, sysv_in}
use Rattle.load_model.specs.SymbolWords.{is_bindable}
use Rattle.load_model.specs.SysvTable.{SysvTable, sysv_lists}
use Rattle.load_model.specs.declared.symbols.RawSym.{RawSym}
use Rattle.load_model.specs.declared.symbols.Sym.{Sym}
use Rattle.load_model.specs.declared.symbols.Ver.{Ver}

-- the symbols of a chain of a table: that of the bucket of a name
abbrev pub chain_of : Table → List ℕ → List ℕ
chain_of (Gnu t) name = map (λ p. p.0) (gnu_chain t (gnu_hash name))
chain_of (Sysv t) name = sysv_chain t (sysv_hash name)
chain_of Absent name = []

-- the symbols whose names are compared
abbrev pub matches_of : Table → List ℕ → List ℕ
matches_of (Gnu t) name = gnu_matches t (gnu_hash name)
matches_of (Sysv t) name = sysv_chain t (sysv_hash name)
matches_of Absent name = []

-- the table lists the symbol under its name
abbrev pub table_lists : Table → List ℕ → ℕ → Bool
table_lists (Gnu t) name i = gnu_lists t (gnu_hash name) i
table_lists (Sysv t) name i = sysv_lists t (sysv_hash name) i
table_lists Absent name i = false

-- the GNU hash table where there is one, else the other
abbrev pub table_from : Option GnuTable → Option SysvTable → Table
table_from (Some gnu) sysv = Gnu gnu
table_from None (Some sysv) = Sysv sysv
table_from None None = Absent

-- the table by which names are looked up in a file
unfoldable pub file_table : List ℕ → Table
file_table file =
    table_from (gnu_in file (headers file) (dynamic_entries file))
    (sysv_in file (headers file) (dynamic_entries file))

-- it lists each symbol that other objects may bind to; the symbol of index 0 is none
pub record ListsAll (table : Table) (syms : List Sym) : Type 0 where
  pub lists : (i : ℕ) (s : Sym) → i ≢ 0 → slice_get syms i ≡ Some s
      → is_bindable s.binding s.kind s.visibility s.value_set ≡ true
      → table_lists table s.name i ≡ true

-- what offers depend on, and the table by which they are found
pub record Indexed : Type 0 where
  pub offered : Offered
  pub table : Table

-- a symbol with its version and its mark, and all symbols of a file with theirs
abbrev pub sym_with : List ℕ → (RawSym × Ver) × Bool → Sym
sym_with file parts = sym_of file parts.0.0 parts.0.1 parts.1

unfoldable pub syms_with : List ℕ → List RawSym → List Ver → List Bool → List Sym
syms_with file symbols versions hidden = map (sym_with file) (zip (zip symbols versions) hidden)
