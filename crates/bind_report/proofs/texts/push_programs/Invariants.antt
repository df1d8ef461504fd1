use Rattle.std.proofs.Common.{◌≡◌, ◌++◌, drop, zip}
use Rattle.std.specs.List.{flat_map}
use Rattle.bind_report.specs.Report.{placed_lines}
use Rattle.bind_report.proofs.texts.push_programs.Given as goal

abbrev pub invariant-programs : goal.invariant-programs
invariant-programs l =
    l.line.items ++ flat_map (placed_lines l.faces) (zip (drop l.number l.replays) (drop l.number l.places))
    ≡ l.initial.line.items ++ flat_map (placed_lines l.faces) (zip l.replays l.places)
