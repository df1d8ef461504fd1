-- the lists that were made of what was kept are those of the file
use Rattle.version_tables.proofs.Whole.{as_many, lists_made}
use Rattle.version_tables.proofs.versions.Versions.read.Goals as goal

pub returns-in-Ok-clause-table : goal.returns-in-Ok-clause-table
returns-in-Ok-clause-table c =
    lists_made c.args.bytes.now c.in_ok-kept.kept.words.items c.in_ok-kept.kept.places.items c.in_ok-kept.kept.definitions.items c.in_ok-kept.kept.needs.file_words.items c.in_ok-kept.kept.needs.asks.items c.args.count c.in-Ok.versions
    c.in_ok-kept.ensures.flaw c.in_ok-kept.ensures.kept c.in_ok-kept.ensures.names c.in-Ok.ensures

pub returns-in-Ok-clause-few : goal.returns-in-Ok-clause-few
returns-in-Ok-clause-few c =
    rw (as_many c.args.bytes.now c.in_ok-kept.kept.words.items c.in_ok-kept.kept.places.items c.in_ok-kept.kept.definitions.items c.in_ok-kept.kept.needs.file_words.items c.in_ok-kept.kept.needs.asks.items c.in-Ok.versions c.in-Ok.ensures) c.in_ok-kept.ensures.few
