use Rattle.std.proofs.Common.{◌≡◌, map, take}
use Rattle.std.specs.List.{flat_map}
use Rattle.name_layout.specs.Opened.{as_opening}
use Rattle.name_layout.specs.Openings.{openings_of}
use Rattle.name_layout.proofs.opened.openings.Given as goal

abbrev pub invariant-loop-run : goal.invariant-loop-run
invariant-loop-run l = map as_opening l.all.items ≡ flat_map openings_of (take l.run-index l.runs)
