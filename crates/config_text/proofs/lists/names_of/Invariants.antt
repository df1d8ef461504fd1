use Rattle.config_text.specs.Kinds.{a_name}
use Rattle.config_text.proofs.ListLemmas.{IsSoFar}
use Rattle.config_text.proofs.lists.names_of.Given as goal

abbrev pub invariant-read : goal.invariant-read
invariant-read l = IsSoFar a_name l.fn.key l.values l.names l.value-index
