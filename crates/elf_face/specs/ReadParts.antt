-- The parts of a file that were read
use Rattle.std.specs.Prelude.{ℕ, ◌<◌, ◌^◌, List, length}
use Rattle.byte_view.specs.Sound.{IsReadFrom}
use Rattle.dyn_table.specs.Table.{IsTableOf}
use Rattle.elf_face.specs.declared.parts.Parts.{Parts}
use Rattle.load_model.specs.SymbolFlaws.{symbol_count}
use Rattle.sym_tables.specs.ReadSymbols.{IsSymsOf}
use Rattle.version_tables.specs.VersionLists.{IsVersionsOf}

-- they are those of the file, in which they have no flaw
pub record ArePartsOf (p : Parts) (file : List ℕ) : Type 0 where
  pub elf : IsReadFrom p.elf file
  pub table : IsTableOf p.table file
  pub syms : IsSymsOf p.syms file
  pub versions : IsVersionsOf p.versions (symbol_count file) file
  pub few_symbols : symbol_count file < 2 ^ 32
  pub few_asks : length p.versions.asks < 2 ^ 32
