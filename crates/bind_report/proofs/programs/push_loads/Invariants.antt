use Rattle.std.proofs.Common.{◌≡◌, ◌++◌, drop, zip}
use Rattle.std.specs.List.{enumerate_from, flat_map}
use Rattle.bind_report.specs.Report.{numbered_load}
use Rattle.bind_report.proofs.programs.push_loads.Given as goal

abbrev pub invariant-loads : goal.invariant-loads
invariant-loads l =
    l.line.items
    ++ flat_map numbered_load (enumerate_from l.number (zip (drop l.number l.objs) (drop l.number l.places)))
    ≡ l.initial.line.items ++ flat_map numbered_load (enumerate_from 0 (zip l.objs l.places))
