-- what was read is that of the file
use Rattle.std.proofs.Common.{sym, subst}
use Rattle.sym_tables.specs.ReadSymbols.{AreHashTablesOf}
use Rattle.sym_tables.proofs.Whole.{syms_made}
use Rattle.sym_tables.proofs.table.Syms.by_tables.Goals as goal

pub returns-clause-table : goal.returns-clause-table
returns-clause-table c =
    rw (← c.entries-entries.ensures)
    (syms_made c.args.bytes.now c.args.elf.now c.entries-entries.result.now c.args.tables c.in_ok-symbols.symbols.items c.symbols_at.result c.in_ok-count.count c.strings_range.result (subst (λ entries. AreHashTablesOf c.args.tables c.args.bytes.now c.args.elf.now entries) (sym c.entries-entries.ensures) c.requires.tables) c.in_ok-count.ensures.count c.symbols_at.ensures c.in_ok-symbols.ensures.symbols c.strings_range.ensures)
