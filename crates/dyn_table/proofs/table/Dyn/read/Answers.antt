-- the parts that were read are those of the file's table
use Rattle.std.proofs.Common.{take, ap, sym, ◌∙◌}
use Rattle.dyn_table.proofs.StringTable.{table_made}
use Rattle.dyn_table.proofs.table.Dyn.read.Goals as goal

pub returns-clause-table : goal.returns-clause-table
returns-clause-table c =
    table_made c.args.elf.now c.args.bytes.now c.deref.result.now c.truncate.new.self.items c.in_ok-parts.parts.end c.len-capacity.result c.in_ok-parts.parts.from c.in_ok-parts.parts.to c.requires
    c.in_ok-entries.ensures.flaw
    c.in_ok-parts.ensures.flaw
    (c.deref.ensures.value ∙ c.in_ok-entries.ensures.table)
    (c.truncate.ensures.items ∙ ap (take c.in_ok-parts.parts.end) (sym c.deref.ensures.value))
    (c.len-capacity.ensures ∙ sym c.deref.ensures.len)
    c.in_ok-parts.ensures.end
    c.in_ok-parts.ensures.strings
