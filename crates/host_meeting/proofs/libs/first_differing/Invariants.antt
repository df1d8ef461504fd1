use Rattle.std.proofs.Common.{◌≡◌, ℕ, ◌<◌, false}
use Rattle.host_list.specs.Meeting.{differ_at}
use Rattle.host_meeting.proofs.libs.first_differing.Given as goal

abbrev pub invariant-loop-place : goal.invariant-loop-place
invariant-loop-place l = (j : ℕ) → j < l.place → differ_at l.xs l.ys j ≡ false
