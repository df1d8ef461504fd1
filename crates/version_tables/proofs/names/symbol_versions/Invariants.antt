-- what is done, and what is left
use Rattle.std.proofs.Common.{◌≡◌, ◌++◌, drop, map}
use Rattle.version_tables.specs.Indexes.{version_in}
use Rattle.version_tables.proofs.names.symbol_versions.Given as goal

abbrev pub invariant-loop-word : goal.invariant-loop-word
invariant-loop-word l = l.versions.items ++ map (version_in l.bytes l.places) (drop l.word-index l.words) ≡ map (version_in l.bytes l.places) l.words
