use Rattle.std.proofs.Common.{◌≡◌, drop, map}
use Rattle.answers.specs.First.{first_some}
use Rattle.lib_closure.specs.Clashes.{program_beside}
use Rattle.lib_closure.specs.OfBuild.{of_build}
use Rattle.lib_closure.specs.Seen.{standing}
use Rattle.lib_closure.proofs.programs.first_program.Given as goal

abbrev pub invariant-loop-number : goal.invariant-loop-number
invariant-loop-number l =
    first_some (map (of_build program_beside l.build (standing l.seen)) (drop l.number-index l.numbers))
    ≡ first_some (map (of_build program_beside l.build (standing l.seen)) l.numbers)
