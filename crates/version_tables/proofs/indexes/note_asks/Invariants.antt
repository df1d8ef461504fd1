-- what is left to note leads to the whole
use Rattle.std.proofs.Common.{◌≡◌, drop, map}
use Rattle.version_tables.specs.Indexes.{all_noted, name_in_asked}
use Rattle.version_tables.proofs.indexes.note_asks.Given as goal

abbrev pub invariant-loop-asked : goal.invariant-loop-asked
invariant-loop-asked l = all_noted l.places.items (map name_in_asked (drop l.asked-index l.asks)) ≡ all_noted l.initial.places.items (map name_in_asked l.asks)
