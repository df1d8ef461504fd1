-- one place more
use Rattle.sym_tables.proofs.Runs.{starts_more, starts_none}
use Rattle.sym_tables.proofs.gnu_table.starts_of.Goals as goal

pub loop-k-init : goal.loop-k-init
loop-k-init c = rw c.new-starts.ensures.items (starts_none c.args.words.now)

pub loop-k-preserved : goal.loop-k-preserved
loop-k-preserved c =
    rw (c.next_start-start.ensures, c.in_ok-push.ensures.items) (starts_more c.loop-k.k c.loop-k.start c.loop-k.starts.items c.args.words.now c.loop-k-test.true c.loop-k.invariant)
