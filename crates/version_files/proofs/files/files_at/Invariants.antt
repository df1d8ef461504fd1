use Rattle.std.proofs.Common.{◌≡◌, map, take}
use Rattle.load_model.specs.VersionCheck.{version_file_of}
use Rattle.version_files.proofs.files.files_at.Given as goal

abbrev pub invariant-loop-ask : goal.invariant-loop-ask
invariant-loop-ask l = l.files.items ≡ map (λ ask. version_file_of l.faces l.run l.number ask.file) (take l.ask-index l.ask-items)
