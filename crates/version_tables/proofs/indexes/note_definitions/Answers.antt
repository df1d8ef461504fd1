-- one name more is noted
use Rattle.std.proofs.Common.{map, refl}
use Rattle.version_tables.specs.Indexes.{all_noted, name_in_definition}
use Rattle.version_tables.proofs.LoopLemmas.{noted_more}
use Rattle.version_tables.proofs.indexes.note_definitions.Goals as goal

pub loop-definition-init : goal.loop-definition-init
loop-definition-init c = refl

pub loop-definition-preserved : goal.loop-definition-preserved
loop-definition-preserved c =
    noted_more name_in_definition c.args.definitions.now c.loop-definition.definition-index _ c.loop-definition.places.items c.note.new.places.items (all_noted c.args.places.now.items (map name_in_definition c.args.definitions.now)) c.loop-definition-test.true c.note.ensures c.loop-definition.invariant
