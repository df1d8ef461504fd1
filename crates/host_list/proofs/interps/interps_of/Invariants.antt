use Rattle.std.proofs.Common.{◌≡◌, [], drop, fold}
use Rattle.std.specs.List.{filter_map}
use Rattle.host_list.specs.Recording.{program_interp, with_new_path}
use Rattle.host_list.proofs.interps.interps_of.Given as goal

abbrev pub invariant-runs : goal.invariant-runs
invariant-runs l = fold with_new_path l.paths (filter_map (program_interp l.faces) (drop l.run-index l.runs)) ≡ fold with_new_path [] (filter_map (program_interp l.faces) l.runs)
