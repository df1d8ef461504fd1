use Rattle.std.proofs.Common.{◌≡◌, map, take}
use Rattle.std.specs.List.{filter_map}
use Rattle.lib_closure.specs.Objects.{occurrence_at}
use Rattle.lib_closure.specs.Seen.{standing}
use Rattle.lib_closure.proofs.lists.programs_seen.Given as goal

abbrev pub invariant-loop-list : goal.invariant-loop-list
invariant-loop-list l = map standing l.programs.items ≡ filter_map (λ list. occurrence_at list.faces.now list.run.now 0) (take l.list-index l.lists)
