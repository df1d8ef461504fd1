use Rattle.std.proofs.Common.{◌≡◌, drop, fold}
use Rattle.std.specs.BTreeSet.{insert_key}
use Rattle.std.specs.List.{flat_map}
use Rattle.host_record.specs.Orders.{full_look_cmp}
use Rattle.host_list.specs.Recording.{looks_by}
use Rattle.host_list.proofs.looks.add_binds.Given as goal

abbrev pub invariant-binds : goal.invariant-binds
invariant-binds l =
    fold (insert_key full_look_cmp) l.looks.keys (flat_map (looks_by l.place.faces.now l.place.hosts.now l.place.run.now) (drop l.bind-index l.binds))
    ≡ fold (insert_key full_look_cmp) l.fn.looks.keys (flat_map (looks_by l.place.faces.now l.place.hosts.now l.place.run.now) l.binds)
