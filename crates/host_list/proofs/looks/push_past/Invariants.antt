use Rattle.std.proofs.Common.{◌≡◌, ◌++◌, drop}
use Rattle.load_model.specs.Bindings.{looked_in}
use Rattle.host_list.specs.Recording.{looked_past, looks_past}
use Rattle.host_list.proofs.looks.push_past.Given as goal

abbrev pub invariant-scope : goal.invariant-scope
invariant-scope l =
    l.found.items ++ looks_past l.reference.numbers.now l.reference.symbol.now l.reference.class (looked_past l.to (looked_in l.reference.class (drop l.obj-index l.scope)))
    ≡ l.fn.found.items ++ looks_past l.reference.numbers.now l.reference.symbol.now l.reference.class (looked_past l.to (looked_in l.reference.class l.scope))
