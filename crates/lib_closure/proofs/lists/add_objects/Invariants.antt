use Rattle.std.proofs.Common.{◌≡◌, ◌++◌, map}
use Rattle.std.specs.List.{filter_map}
use Rattle.load_model.specs.LoadList.{up_to}
use Rattle.lib_closure.specs.Objects.{occurrence_at}
use Rattle.lib_closure.specs.Seen.{standing}
use Rattle.lib_closure.proofs.lists.add_objects.Given as goal

abbrev pub invariant-loop-number : goal.invariant-loop-number
invariant-loop-number l =
    map standing l.all.items ≡ map standing l.initial.all.items ++ filter_map (occurrence_at l.list.faces.now l.list.run.now) (up_to l.number)
