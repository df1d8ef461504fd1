use Rattle.std.proofs.Common.{◌≡◌, ◌++◌, drop}
use Rattle.host_list.specs.Versions.{versions_beside}
use Rattle.host_list.proofs.versions.versions_asked.Given as goal

abbrev pub invariant-asks : goal.invariant-asks
invariant-asks l = l.versions.items ++ versions_beside l.numbers (drop l.place l.asks) (drop l.place l.files) ≡ versions_beside l.numbers l.asks l.files
