use Rattle.std.proofs.Common.{◌≡◌, ◌++◌}
use Rattle.host_list.proofs.recording.listed_versions.Given as goal

abbrev pub invariant-list : goal.invariant-list
invariant-list l = l.list ++ l.version-iterator ≡ l.fn.versions.keys
