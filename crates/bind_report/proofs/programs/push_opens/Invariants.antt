use Rattle.std.proofs.Common.{◌≡◌, ◌++◌, drop, zip}
use Rattle.std.specs.List.{flat_map}
use Rattle.bind_report.specs.Report.{open_line}
use Rattle.bind_report.proofs.programs.push_opens.Given as goal

abbrev pub invariant-opens : goal.invariant-opens
invariant-opens l =
    l.line.items ++ flat_map open_line (zip (drop l.place l.opens) (drop l.place l.roots))
    ≡ l.initial.line.items ++ flat_map open_line (zip l.opens l.roots)
