-- a table whose parts are sound is usable
use Rattle.sym_tables.proofs.GnuParts.{usable}
use Rattle.sym_tables.proofs.gnu_table.GnuTable.new.Goals as goal

pub invariant_of-result : goal.invariant_of-result
invariant_of-result c =
    usable c.args.front c.args.words.items c.in_ok-starts.starts.items c.requires (rw c.deref.ensures.value at c.in_ok-starts.ensures)
