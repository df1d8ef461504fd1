use Rattle.std.specs.Prelude.{codes}
use Rattle.config_text.specs.Parts.{tool_keys, tool_of}
use Rattle.config_text.specs.Tables.{a_table}
use Rattle.config_text.proofs.ListLemmas.{IsSoFar}
use Rattle.config_text.proofs.carried.tools_in.Given as goal

abbrev pub invariant-read : goal.invariant-read
invariant-read l = IsSoFar (a_table tool_keys tool_of) (codes "tools") l.values l.tools l.value-index
