-- where the walk is, and what is left of it
use Rattle.std.proofs.Common.{◌≡◌, ◌<◌, ◌≤◌, ◌++◌}
use Rattle.answers.specs.First.{first_some}
use Rattle.load_model.specs.VersionFlaws.{verneed_flaw, verneeds_flaw}
use Rattle.load_model.specs.VersionTables.{verneed_count, verneed_place}
use Rattle.version_tables.specs.Walks.{asked_of_need, file_word_of, from_on, lists_from}
use Rattle.version_tables.proofs.needs.read_needs.Given as goal

abbrev pub invariant-loop-k : goal.invariant-loop-k
invariant-loop-k l = record {
  place : l.at ≡ verneed_place l.bytes l.k;
  turn : l.k < l.said → l.k ≤ l.at;
  flaw : first_some (from_on (verneed_flaw l.bytes) l.k l.said) ≡ verneeds_flaw l.bytes;
  words : l.file_words.items ++ from_on (file_word_of l.bytes) l.k l.said ≡ from_on (file_word_of l.bytes) 0 (verneed_count l.bytes);
  asks : l.asks.items ++ lists_from (asked_of_need l.bytes) l.k l.said ≡ lists_from (asked_of_need l.bytes) 0 (verneed_count l.bytes);
}
