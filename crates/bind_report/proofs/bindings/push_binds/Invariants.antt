use Rattle.std.proofs.Common.{◌≡◌, ◌++◌, drop}
use Rattle.std.specs.List.{flat_map}
use Rattle.bind_report.specs.Report.{told_bind}
use Rattle.bind_report.proofs.bindings.push_binds.Given as goal

abbrev pub invariant-binds : goal.invariant-binds
invariant-binds l =
    l.line.items ++ flat_map (told_bind l.faces l.run l.places) (drop l.bind-index l.binds)
    ≡ l.initial.line.items ++ flat_map (told_bind l.faces l.run l.places) l.binds
