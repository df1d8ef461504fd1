use Rattle.config_text.specs.Kinds.{a_path}
use Rattle.config_text.proofs.ListLemmas.{IsSoFar}
use Rattle.config_text.proofs.lists.paths_of.Given as goal

abbrev pub invariant-read : goal.invariant-read
invariant-read l = IsSoFar a_path l.fn.key l.values l.paths l.value-index
