use Rattle.std.proofs.Common.{◌≡◌, ◌++◌, drop}
use Rattle.std.specs.List.{flat_map}
use Rattle.manifest.specs.Manifest.{item_line}
use Rattle.manifest.proofs.lines.push_items.Given as goal

abbrev pub invariant-loop-item : goal.invariant-loop-item
invariant-loop-item l = l.out.items ++ flat_map item_line (drop l.item-index l.items) ≡ l.fn.out.items ++ flat_map item_line l.items
