use Rattle.std.proofs.Common.{◌≡◌, drop, map}
use Rattle.answers.specs.First.{first_some}
use Rattle.lib_closure.specs.Clashes.{program_met}
use Rattle.lib_closure.specs.OfBuild.{of_build}
use Rattle.lib_closure.specs.Seen.{standing}
use Rattle.lib_closure.proofs.programs.program_needed.Given as goal

abbrev pub invariant-loop-seen : goal.invariant-loop-seen
invariant-loop-seen l =
    first_some (map (of_build program_met l.build) (map standing (drop l.seen-index l.seen-items)))
    ≡ first_some (map (of_build program_met l.build) (map standing l.seen-items))
