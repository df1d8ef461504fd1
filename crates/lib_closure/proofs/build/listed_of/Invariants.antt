use Rattle.std.proofs.Common.{◌≡◌, ℕ, List, bytes_eq, take}
use Rattle.std.specs.List.{list_any}
use Rattle.listed_runs.specs.Fitting.{is_on_list}
use Rattle.lib_closure.proofs.build.listed_of.Given as goal

abbrev pub invariant-loop-name : goal.invariant-loop-name
invariant-loop-name l = (name : List ℕ) → list_any (bytes_eq name) l.listed ≡ is_on_list (take l.name-index l.names) name
