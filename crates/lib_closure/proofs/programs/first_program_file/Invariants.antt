use Rattle.std.proofs.Common.{◌≡◌, drop, map}
use Rattle.answers.specs.First.{first_some}
use Rattle.lib_closure.specs.Clashes.{program_named}
use Rattle.lib_closure.specs.OfBuild.{of_build}
use Rattle.lib_closure.specs.Seen.{standing}
use Rattle.lib_closure.proofs.programs.first_program_file.Given as goal

abbrev pub invariant-loop-file : goal.invariant-loop-file
invariant-loop-file l =
    first_some (map (of_build program_named l.build (standing l.seen)) (drop l.file-index l.file-items))
    ≡ first_some (map (of_build program_named l.build (standing l.seen)) l.file-items)
