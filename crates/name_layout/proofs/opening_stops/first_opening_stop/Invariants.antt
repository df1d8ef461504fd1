use Rattle.std.proofs.Common.{◌≡◌, drop, map}
use Rattle.answers.specs.First.{first_some}
use Rattle.name_layout.specs.Opened.{as_opening}
use Rattle.name_layout.specs.Openings.{opening_stop}
use Rattle.name_layout.proofs.opening_stops.first_opening_stop.Given as goal

abbrev pub invariant-loop-opened : goal.invariant-loop-opened
invariant-loop-opened l =
    first_some (map (opening_stop l.names.libs.split.now l.names.names.now l.names.runs.now) (map as_opening (drop l.opened-index l.opened-items)))
    ≡ first_some (map (opening_stop l.names.libs.split.now l.names.names.now l.names.runs.now) (map as_opening l.opened-items))
