-- one ask more is named
use Rattle.std.proofs.Common.{map}
use Rattle.version_tables.specs.VersionLists.{ask_in}
use Rattle.version_tables.proofs.LoopLemmas.{made_more}
use Rattle.version_tables.proofs.names.named_asks.Goals as goal

pub loop-asked-preserved : goal.loop-asked-preserved
loop-asked-preserved c =
    made_more (ask_in c.args.bytes.now) c.args.asks.now c.loop-asked.asked-index _ c.loop-asked.named c.push.new.self (map (ask_in c.args.bytes.now) c.args.asks.now) c.in_ok-ask_in.field-0
    c.loop-asked-test.true c.in_ok-push.ensures.ok c.in_ok-ask_in.ensures c.loop-asked.invariant
