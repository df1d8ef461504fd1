use Rattle.std.proofs.Common.{◌≡◌, fold}
use Rattle.std.specs.BTreeSet.{insert_key}
use Rattle.std.specs.Vec.Iter.{into_iter_items}
use Rattle.host_record.specs.Orders.{full_look_cmp}
use Rattle.host_list.proofs.looks.add_all.Given as goal

abbrev pub invariant-found : goal.invariant-found
invariant-found l = fold (insert_key full_look_cmp) l.looks.keys (into_iter_items l.look-iterator) ≡ fold (insert_key full_look_cmp) l.fn.looks.keys l.fn.found.items
