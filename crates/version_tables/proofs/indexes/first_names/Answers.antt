-- what was noted, from no names on
use Rattle.std.proofs.Common.{map}
use Rattle.version_tables.specs.Indexes.{name_in_asked, name_in_definition}
use Rattle.version_tables.proofs.FirstNames.{first_names}
use Rattle.version_tables.proofs.indexes.first_names.Goals as goal

pub returns : goal.returns
returns c =
    first_names c.args.size c.in_ok-places.places.items c.note_definitions.new.places.items c.note_asks.new.places.items (map name_in_definition c.args.definitions.now) (map name_in_asked c.args.asks.now)
    c.in_ok-places.ensures c.note_definitions.ensures c.note_asks.ensures
