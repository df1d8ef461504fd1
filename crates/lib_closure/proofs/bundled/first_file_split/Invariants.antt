use Rattle.std.proofs.Common.{◌≡◌, drop, map, zip}
use Rattle.answers.specs.First.{first_some}
use Rattle.lib_closure.specs.Clashes.{file_split}
use Rattle.lib_closure.specs.OfBuild.{of_build}
use Rattle.lib_closure.specs.Seen.{standing}
use Rattle.lib_closure.proofs.bundled.first_file_split.Given as goal

abbrev pub invariant-loop-place : goal.invariant-loop-place
invariant-loop-place l =
    first_some (map (of_build file_split l.build (standing l.pair.first) (standing l.pair.seen)) (zip (drop l.place l.first-items) (zip (drop l.place l.asks) (drop l.place l.files))))
    ≡ first_some (map (of_build file_split l.build (standing l.pair.first) (standing l.pair.seen)) (zip l.first-items (zip l.asks l.files)))
