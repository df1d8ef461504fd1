use Rattle.std.proofs.Common.{ℕ, List, ◌≡◌, ◌||◌, bytes_eq}
use Rattle.std.specs.List.{list_any}
use Rattle.appdir_files.proofs.FolderPathLemmas.{folder_within}
use Rattle.appdir_files.proofs.path_sets.PathSet.add_folders.Given as goal

abbrev pub invariant-loop-at : goal.invariant-loop-at
invariant-loop-at l =
    (folder : List ℕ) → list_any (bytes_eq folder) l.self ≡ (list_any (bytes_eq folder) l.initial.self || folder_within l.at folder l.path)
