use Rattle.std.proofs.Common.{◌≡◌, [], drop, fold}
use Rattle.std.specs.BTreeSet.{insert_key}
use Rattle.std.specs.List.{flat_map}
use Rattle.host_record.specs.Orders.{version_cmp}
use Rattle.host_list.specs.Recording.{versions_of_run}
use Rattle.host_list.proofs.recording.versions_in.Given as goal

abbrev pub invariant-runs : goal.invariant-runs
invariant-runs l =
    fold (insert_key version_cmp) l.versions.keys (flat_map (versions_of_run l.faces l.hosts) (drop l.run-index l.runs))
    ≡ fold (insert_key version_cmp) [] (flat_map (versions_of_run l.faces l.hosts) l.runs)
