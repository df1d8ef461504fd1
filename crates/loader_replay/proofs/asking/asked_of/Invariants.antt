use Rattle.std.proofs.Common.{◌≡◌}
use Rattle.loader_replay.proofs.AskLemmas.{names_up_to}
use Rattle.loader_replay.proofs.asking.asked_of.Given as goal

abbrev pub invariant-loop-obj : goal.invariant-loop-obj
invariant-loop-obj l = l.asked ≡ names_up_to l.faces l.run l.obj
