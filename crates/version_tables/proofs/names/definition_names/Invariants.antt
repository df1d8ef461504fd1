-- what is done, and what is left
use Rattle.std.proofs.Common.{◌≡◌, ◌++◌, drop, map}
use Rattle.load_model.specs.VersionTables.{text_of}
use Rattle.version_tables.proofs.names.definition_names.Given as goal

abbrev pub invariant-loop-definition : goal.invariant-loop-definition
invariant-loop-definition l = l.names ++ map (λ d. text_of l.bytes d.name) (drop l.definition-index l.definitions) ≡ map (λ d. text_of l.bytes d.name) l.definitions
