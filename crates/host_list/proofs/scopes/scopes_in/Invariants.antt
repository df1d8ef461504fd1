use Rattle.std.proofs.Common.{◌≡◌, map, vec_items}
use Rattle.load_model.specs.LoadList.{up_to}
use Rattle.load_model.specs.Scopes.{scope_of}
use Rattle.host_list.proofs.scopes.scopes_in.Given as goal

abbrev pub invariant-loop-obj : goal.invariant-loop-obj
invariant-loop-obj l = map vec_items l.scopes.items ≡ map (scope_of l.fn.faces l.fn.run) (up_to l.obj)
