-- what is left to note leads to the whole
use Rattle.std.proofs.Common.{◌≡◌, drop, map}
use Rattle.version_tables.specs.Indexes.{all_noted, name_in_definition}
use Rattle.version_tables.proofs.indexes.note_definitions.Given as goal

abbrev pub invariant-loop-definition : goal.invariant-loop-definition
invariant-loop-definition l = all_noted l.places.items (map name_in_definition (drop l.definition-index l.definitions)) ≡ all_noted l.initial.places.items (map name_in_definition l.definitions)
