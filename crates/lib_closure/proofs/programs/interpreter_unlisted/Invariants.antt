use Rattle.std.proofs.Common.{◌≡◌, drop, map}
use Rattle.std.specs.List.{find}
use Rattle.lib_closure.specs.Clashes.{has_odd_interpreter}
use Rattle.lib_closure.specs.OfBuild.{of_build}
use Rattle.lib_closure.specs.Seen.{standing}
use Rattle.lib_closure.proofs.programs.interpreter_unlisted.Given as goal

abbrev pub invariant-loop-program : goal.invariant-loop-program
invariant-loop-program l =
    find (of_build has_odd_interpreter l.build) (map standing (drop l.program-index l.program-items))
    ≡ find (of_build has_odd_interpreter l.build) (map standing l.program-items)
