-- where the walk is, and what is left of it
use Rattle.std.proofs.Common.{◌≡◌, ◌<◌, ◌≤◌, ◌++◌}
use Rattle.answers.specs.First.{first_some}
use Rattle.load_model.specs.VersionFlaws.{verdef_flaw, verdefs_flaw}
use Rattle.load_model.specs.VersionTables.{verdef_count, verdef_place}
use Rattle.version_tables.specs.Walks.{definition_of, from_on}
use Rattle.version_tables.proofs.definitions.read_definitions.Given as goal

abbrev pub invariant-loop-k : goal.invariant-loop-k
invariant-loop-k l = record {
  place : l.at ≡ verdef_place l.bytes l.k;
  turn : l.k < l.said → l.k ≤ l.at;
  flaw : first_some (from_on (verdef_flaw l.bytes) l.k l.said) ≡ verdefs_flaw l.bytes;
  kept : l.definitions.items ++ from_on (definition_of l.bytes) l.k l.said ≡ from_on (definition_of l.bytes) 0 (verdef_count l.bytes);
}
