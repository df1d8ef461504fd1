use Rattle.std.proofs.Common.{◌≡◌, map, take}
use Rattle.std.specs.List.{flat_map}
use Rattle.lib_closure.specs.Objects.{objects_of}
use Rattle.lib_closure.specs.Seen.{standing}
use Rattle.lib_closure.proofs.lists.all_seen.Given as goal

abbrev pub invariant-loop-list : goal.invariant-loop-list
invariant-loop-list l = map standing l.all.items ≡ flat_map (λ list. objects_of list.faces.now list.run.now) (take l.list-index l.lists)
