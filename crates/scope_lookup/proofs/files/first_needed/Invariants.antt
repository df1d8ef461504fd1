use Rattle.std.proofs.Common.{◌≡◌}
use Rattle.scope_lookup.proofs.AskingLemmas.{needed_so_far}
use Rattle.scope_lookup.proofs.files.first_needed.Given as goal

abbrev pub invariant-loop-number : goal.invariant-loop-number
invariant-loop-number l = l.first ≡ needed_so_far l.asked l.run l.phase l.file l.number
