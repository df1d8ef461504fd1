use Rattle.std.proofs.Common.{◌+◌, map, take, zip}
use Rattle.std.specs.List.{enumerate_from}
use Rattle.version_files.specs.Known.{known_from}
use Rattle.version_files.specs.Telling.{AddsNames, AreNamed}
use Rattle.version_files.proofs.files.add_opens.Given as goal

abbrev pub invariant-loop-place : goal.invariant-loop-place
invariant-loop-place l =
    AreNamed l.known × AddsNames l.initial.known l.known (map (λ numbered. known_from l.run (numbered.0 + 1) numbered.1) (enumerate_from 0 (take l.place (zip l.run.opens l.run.roots))))
