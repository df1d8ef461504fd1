-- what was read by headers and entries is that of the file
use Rattle.sym_tables.proofs.Whole.{syms_of_result}
use Rattle.sym_tables.proofs.table.Syms.read.Goals as goal

pub returns-clause-table : goal.returns-clause-table
returns-clause-table c =
    syms_of_result c.args.bytes.now c.args.elf.now c.args.table.now c.read_by.result c.requires.elf c.requires.table c.read_by.ensures.flaw c.read_by.ensures.table
