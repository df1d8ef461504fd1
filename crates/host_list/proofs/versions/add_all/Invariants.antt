use Rattle.std.proofs.Common.{◌≡◌, fold}
use Rattle.std.specs.BTreeSet.{insert_key}
use Rattle.std.specs.Vec.Iter.{into_iter_items}
use Rattle.host_record.specs.Orders.{version_cmp}
use Rattle.host_list.proofs.versions.add_all.Given as goal

abbrev pub invariant-found : goal.invariant-found
invariant-found l = fold (insert_key version_cmp) l.versions.keys (into_iter_items l.version-iterator) ≡ fold (insert_key version_cmp) l.fn.versions.keys l.fn.found.items
