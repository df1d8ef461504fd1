use Rattle.std.specs.Prelude.{codes}
use Rattle.config_text.specs.Parts.{file_keys, file_of}
use Rattle.config_text.specs.Tables.{a_table}
use Rattle.config_text.proofs.ListLemmas.{IsSoFar}
use Rattle.config_text.proofs.carried.files_in.Given as goal

abbrev pub invariant-read : goal.invariant-read
invariant-read l = IsSoFar (a_table file_keys file_of) (codes "data") l.values l.files l.value-index
