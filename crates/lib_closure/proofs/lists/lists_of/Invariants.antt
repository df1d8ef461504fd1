use Rattle.std.proofs.Common.{◌≡◌, map, take}
use Rattle.lib_closure.specs.Build.{list_of, lists_over}
use Rattle.lib_closure.proofs.lists.lists_of.Given as goal

abbrev pub invariant-loop-run : goal.invariant-loop-run
invariant-loop-run l = map list_of l.lists.items ≡ lists_over l.faces (take l.run-index l.runs)
