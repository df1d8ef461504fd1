use Rattle.std.proofs.Common.{◌≡◌, filter, map, take}
use Rattle.lib_closure.specs.Kinds.{is_bundled}
use Rattle.lib_closure.specs.OfBuild.{of_build}
use Rattle.lib_closure.specs.Seen.{standing}
use Rattle.lib_closure.specs.Splits.{member_of}
use Rattle.lib_closure.proofs.parts.bundled_of.Given as goal

abbrev pub invariant-loop-seen : goal.invariant-loop-seen
invariant-loop-seen l = l.libs ≡ map member_of (filter (of_build is_bundled l.build) (map standing (take l.seen-index l.seen-items)))
