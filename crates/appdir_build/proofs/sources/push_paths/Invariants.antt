use Rattle.std.proofs.Common.{◌≡◌, ◌++◌, map, take}
use Rattle.appdir_build.specs.Outcome.{path_of_member}
use Rattle.appdir_build.proofs.sources.push_paths.Given as goal

abbrev pub invariant-loop-member : goal.invariant-loop-member
invariant-loop-member l = l.paths ≡ l.initial.paths ++ map path_of_member (take l.member-index l.members)
