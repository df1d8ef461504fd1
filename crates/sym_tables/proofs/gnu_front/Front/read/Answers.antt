-- the parts that were read are those of the table
use Rattle.std.proofs.Common.{sym, ◌∙◌}
use Rattle.sym_tables.proofs.Placing.{front_there}
use Rattle.sym_tables.proofs.gnu_front.Front.read.Goals as goal

pub returns-in-Ok : goal.returns-in-Ok
returns-in-Ok c =
    front_there c.args.bytes.now c.args.elf.now c.args.addr c.in-Some-range.from c.in-Some-range.field-0-1 c.in-Some.header c.in-Ok.front c.requires c.in-Some.ensures
    (rw (c.from.ensures, c.from-2.ensures) at (sym c.range.ensures ∙ c.in-Some-range.is))
    c.in-Ok.ensures
