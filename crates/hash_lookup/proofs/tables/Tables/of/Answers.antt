-- the table lists all that other objects may bind to
use Rattle.hash_lookup.proofs.SymbolLemmas.{lists_all}
use Rattle.hash_lookup.proofs.tables.Tables.of.Goals as goal

pub invariant_of-result : goal.invariant_of-result
invariant_of-result c =
    rw (c.in_ok-of.ensures, c.in_ok-syms_with.ensures.symbols) (lists_all c.args.bytes.now c.args.syms.now c.args.versions.now c.args.hidden.now c.requires.symbols)
