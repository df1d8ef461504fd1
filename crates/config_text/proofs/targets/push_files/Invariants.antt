use Rattle.std.proofs.Common.{◌≡◌, ◌++◌, drop, map}
use Rattle.config_text.proofs.targets.push_files.Given as goal

abbrev pub invariant-files : goal.invariant-files
invariant-files l = l.targets ++ map (λ file. file.to) (drop l.file-index l.files) ≡ l.fn.targets ++ map (λ file. file.to) l.files
