-- where the chain of the symbol's word begins
use Rattle.std.proofs.Common.{sym}
use Rattle.sym_tables.proofs.Runs.{run_is}
use Rattle.sym_tables.proofs.gnu_table.GnuTable.is_in_run.Goals as goal

pub returns : goal.returns
returns c =
    rw (← c.self.view_is) (rw (c.begins_by.ensures, c.deref.ensures.value) (sym (run_is c.self.inside.offset c.args.first c.args.symbol c.self.inside.starts.items c.self.inside.words.items c.self.invariant.begins c.if-first-eq0.false c.if-first-offset.false c.if-symbol-first.false)))
