-- where the walk is, and what is left of it
use Rattle.std.proofs.Common.{◌≡◌, ◌++◌}
use Rattle.answers.specs.First.{first_some}
use Rattle.load_model.specs.VersionFlaws.{vernaux_flaw, vernauxs_flaw}
use Rattle.load_model.specs.VersionTables.{vernaux_place}
use Rattle.version_tables.specs.Walks.{asked_of_record, asked_of, from_on}
use Rattle.version_tables.proofs.asked.read_asked.Given as goal

abbrev pub invariant-loop-j : goal.invariant-loop-j
invariant-loop-j l = record {
  place : l.aux_at ≡ vernaux_place l.bytes l.at l.j;
  flaw : first_some (from_on (vernaux_flaw l.bytes l.at) l.j l.said) ≡ vernauxs_flaw l.bytes l.at;
  kept : l.asks.items ++ from_on (asked_of l.bytes l.number l.at) l.j l.said ≡ l.initial.asks.items ++ asked_of_record l.bytes l.number l.at;
}
