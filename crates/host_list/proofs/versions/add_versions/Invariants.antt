use Rattle.std.proofs.Common.{◌≡◌, fold}
use Rattle.std.specs.BTreeSet.{insert_key}
use Rattle.std.specs.List.{flat_map}
use Rattle.load_model.specs.LoadList.{up_to}
use Rattle.host_record.specs.Orders.{version_cmp}
use Rattle.host_list.specs.Recording.{host_numbers, versions_by}
use Rattle.host_list.proofs.versions.add_versions.Given as goal

abbrev pub invariant-loop-obj : goal.invariant-loop-obj
invariant-loop-obj l =
    l.versions.keys
    ≡ fold (insert_key version_cmp) l.fn.versions.keys (flat_map (versions_by l.place.faces.now (host_numbers l.place.hosts.now l.place.run.now) l.place.run.now) (up_to l.obj))
