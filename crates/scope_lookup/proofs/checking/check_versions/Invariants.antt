use Rattle.std.proofs.Common.{◌≡◌, None}
use Rattle.scope_lookup.proofs.AskingLemmas.{unmet_up_to}
use Rattle.scope_lookup.proofs.checking.check_versions.Given as goal

abbrev pub invariant-loop-obj : goal.invariant-loop-obj
invariant-loop-obj l = unmet_up_to l.faces l.run l.obj ≡ None
