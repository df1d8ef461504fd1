use Rattle.std.proofs.Common.{◌≡◌, drop, map, zip}
use Rattle.answers.specs.First.{first_some}
use Rattle.lib_closure.specs.Clashes.{need_split}
use Rattle.lib_closure.specs.OfBuild.{of_build}
use Rattle.lib_closure.specs.Seen.{standing}
use Rattle.lib_closure.proofs.bundled.first_need_split.Given as goal

abbrev pub invariant-loop-place : goal.invariant-loop-place
invariant-loop-place l =
    first_some (map (of_build need_split l.build (standing l.pair.first) (standing l.pair.seen)) (zip (drop l.place l.first-items) (zip (drop l.place l.needs) (drop l.place l.targets))))
    ≡ first_some (map (of_build need_split l.build (standing l.pair.first) (standing l.pair.seen)) (zip l.first-items (zip l.needs l.targets)))
