use Rattle.std.proofs.Common.{map, take, zip}
use Rattle.version_files.specs.Known.{known_from}
use Rattle.version_files.specs.Telling.{AddsNames, AreNamed}
use Rattle.version_files.proofs.files.add_requests.Given as goal

abbrev pub invariant-loop-place : goal.invariant-loop-place
invariant-loop-place l = AreNamed l.known × AddsNames l.initial.known l.known (map (known_from l.run l.asked.phase) (take l.place (zip l.asked.needs.now l.asked.targets.now)))
