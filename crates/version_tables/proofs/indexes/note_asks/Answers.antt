-- one name more is noted
use Rattle.std.proofs.Common.{map, refl}
use Rattle.version_tables.specs.Indexes.{all_noted, name_in_asked}
use Rattle.version_tables.proofs.LoopLemmas.{noted_more}
use Rattle.version_tables.proofs.indexes.note_asks.Goals as goal

pub loop-asked-init : goal.loop-asked-init
loop-asked-init c = refl

pub loop-asked-preserved : goal.loop-asked-preserved
loop-asked-preserved c =
    noted_more name_in_asked c.args.asks.now c.loop-asked.asked-index _ c.loop-asked.places.items c.note.new.places.items (all_noted c.args.places.now.items (map name_in_asked c.args.asks.now)) c.loop-asked-test.true c.note.ensures c.loop-asked.invariant
