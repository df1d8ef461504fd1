use Rattle.std.proofs.Common.{take}
use Rattle.host_meeting.specs.Sets.{IsSetOf}
use Rattle.host_meeting.proofs.found.versions_of.Given as goal

abbrev pub invariant-loop-name : goal.invariant-loop-name
invariant-loop-name l = IsSetOf (take l.name-index l.names) l.set
