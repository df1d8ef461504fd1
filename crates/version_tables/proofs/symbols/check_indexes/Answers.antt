-- each symbol leaves the flaw to those behind it
use Rattle.std.proofs.Common.{length}
use Rattle.answers.specs.First.{first_some}
use Rattle.version_tables.specs.Faults.{version_fault_flaw}
use Rattle.version_tables.specs.Indexes.{unknown_at}
use Rattle.version_tables.specs.Walks.{from_on}
use Rattle.version_tables.proofs.Walks.{flaw_named, flaw_none, flaw_passed}
use Rattle.version_tables.proofs.symbols.check_indexes.Goals as goal

pub returns-in-Err : goal.returns-in-Err
unfolding unknown_at
returns-in-Err c =
    flaw_named (unknown_at c.args.places.now c.args.words.now) c.loop-symbol.symbol (length c.args.words.now) (first_some (from_on (unknown_at c.args.places.now c.args.words.now) 0 (length c.args.words.now))) (version_fault_flaw c.in-Err.fault) c.loop-symbol-test.true c.in-Err.ensures c.loop-symbol.invariant

pub loop-symbol-preserved : goal.loop-symbol-preserved
unfolding unknown_at
loop-symbol-preserved c =
    flaw_passed (unknown_at c.args.places.now c.args.words.now) c.loop-symbol.symbol (length c.args.words.now) (first_some (from_on (unknown_at c.args.places.now c.args.words.now) 0 (length c.args.words.now))) c.loop-symbol-test.true c.in-Ok.ensures c.loop-symbol.invariant

pub returns : goal.returns
returns c =
    flaw_none (unknown_at c.args.places.now c.args.words.now) c.loop-symbol.symbol (length c.args.words.now) (first_some (from_on (unknown_at c.args.places.now c.args.words.now) 0 (length c.args.words.now))) c.loop-symbol-test.false c.loop-symbol.invariant
