use Rattle.std.proofs.Common.{◌≡◌, filter, is_some, map, take}
use Rattle.name_layout.specs.Opened.{as_opening}
use Rattle.name_layout.specs.Openings.{Opening, lib_with}
use Rattle.name_layout.proofs.opened_names.bundled_openings.Given as goal

abbrev pub invariant-loop-opened : goal.invariant-loop-opened
invariant-loop-opened l =
    map as_opening l.bundled.items ≡ filter (λ (o : Opening). is_some (lib_with l.libs.split.now o.root)) (map as_opening (take l.opened-index l.all))
