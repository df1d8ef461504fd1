use Rattle.std.proofs.Common.{ℕ, ◌≡◌, ◌<◌, bytes_eq, false, get_or, take}
use Rattle.std.specs.List.{list_any}
use Rattle.appdir_files.proofs.path_sets.PathSet.contains_folder.Given as goal

abbrev pub invariant-loop-at : goal.invariant-loop-at
invariant-loop-at l =
    (k : ℕ) → k < l.at → get_or l.path k 0 ≡ 47 → list_any (bytes_eq (take k l.path)) l.self ≡ false
