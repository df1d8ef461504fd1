-- the words in the file are those of memory
use Rattle.std.proofs.Common.{◌*◌, ◌∙◌}
use Rattle.version_tables.specs.Backed.{IsBacked}
use Rattle.version_tables.proofs.SymbolWords.{versym_words}
use Rattle.version_tables.proofs.symbols.versym_words.Goals as goal

pub returns-in-Ok-clause-words : goal.returns-in-Ok-clause-words
returns-in-Ok-clause-words c =
    let b : IsBacked c.args.bytes.now c.args.at (2 * c.args.count) c.in-Some.place = rw c.from.ensures at c.in-Some.ensures in
    c.in-Ok.ensures ∙ versym_words c.args.bytes.now c.args.at c.args.count c.in-Some.place b
