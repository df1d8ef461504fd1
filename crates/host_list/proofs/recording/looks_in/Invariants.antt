use Rattle.std.proofs.Common.{◌≡◌, [], drop, fold}
use Rattle.std.specs.BTreeSet.{insert_key}
use Rattle.std.specs.List.{flat_map}
use Rattle.host_record.specs.Orders.{full_look_cmp}
use Rattle.host_list.specs.Recording.{looks_of_run}
use Rattle.host_list.proofs.recording.looks_in.Given as goal

abbrev pub invariant-runs : goal.invariant-runs
invariant-runs g l =
    fold (insert_key full_look_cmp) l.looks.keys (flat_map (looks_of_run l.faces l.hosts) (drop l.run-index l.runs))
    ≡ fold (insert_key full_look_cmp) [] (flat_map (looks_of_run l.faces l.hosts) l.runs)
