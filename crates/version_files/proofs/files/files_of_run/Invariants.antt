use Rattle.std.proofs.Common.{◌≡◌, map, vec_items}
use Rattle.load_model.specs.LoadList.{up_to}
use Rattle.version_files.specs.Files.{files_at}
use Rattle.version_files.proofs.files.files_of_run.Given as goal

abbrev pub invariant-loop-number : goal.invariant-loop-number
invariant-loop-number l = map vec_items l.files.items ≡ map (files_at l.faces l.run) (up_to l.number)
