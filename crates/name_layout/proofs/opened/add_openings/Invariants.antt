use Rattle.std.proofs.Common.{◌≡◌, ◌++◌, map, take, zip}
use Rattle.std.specs.List.{filter_map}
use Rattle.name_layout.specs.Opened.{as_opening}
use Rattle.name_layout.specs.Openings.{opening}
use Rattle.name_layout.proofs.opened.add_openings.Given as goal

abbrev pub invariant-loop-place : goal.invariant-loop-place
invariant-loop-place l =
    map as_opening l.all.items ≡ map as_opening l.initial.all.items ++ filter_map (opening l.run) (take l.place (zip l.run.opens l.run.roots))
