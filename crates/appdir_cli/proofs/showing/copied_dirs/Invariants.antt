use Rattle.std.proofs.Common.{◌≡◌, ◌++◌, drop}
use Rattle.appdir_cli.proofs.showing.copied_dirs.Given as goal

abbrev pub invariant-loop-dir : goal.invariant-loop-dir
invariant-loop-dir l = l.copies ++ drop l.dir-index l.dirs ≡ l.dirs
